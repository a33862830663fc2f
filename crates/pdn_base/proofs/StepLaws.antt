-- A site's shares of And gates, list by list.
use Rattle.std.proofs.Common.{◌≡◌, ℕ, ◌<◌, List, length, take, drop, get_or, sym, ap, ◌∙◌, arith, bit_xor, bit_and}
use lib.Lanes.{zip2}
use Rattle.std.proofs.lemmas.Simd.{length-zip2, get_or-zip2}
use Rattle.pdn_base.specs.declared.site.Site.{Site}
use Rattle.pdn_base.specs.declared.site.Site.TheVariants.{A, B}
use Rattle.pdn_base.specs.Words.{and_step, and_steps, xor_lists, and_lists}
use Rattle.pdn_base.specs.Lanes.{share_lanes, lanes_step}
use Rattle.pdn_base.proofs.LaneLists.{chunk-zip2, xor_lists-is, and_lists-is}

shares-is : (c a b d e : List ℕ) → and_steps B c a b d e ≡ share_lanes c a b d e
shares-is c a b d e =
    xor_lists-is (xor_lists c (and_lists d b)) (and_lists e a)
    ∙ ap (λ x. zip2 bit_xor x (and_lists e a)) (xor_lists-is c (and_lists d b))
    ∙ ap (λ x. zip2 bit_xor (zip2 bit_xor c x) (and_lists e a)) (and_lists-is d b)
    ∙ ap (λ x. zip2 bit_xor (zip2 bit_xor c (zip2 bit_and d b)) x) (and_lists-is e a)

pub and_steps-is : (site : Site) (c a b d e : List ℕ) → and_steps site c a b d e ≡ lanes_step site c a b d e
and_steps-is A c a b d e =
    xor_lists-is (and_steps B c a b d e) (and_lists d e)
    ∙ ap (λ x. zip2 bit_xor x (and_lists d e)) (shares-is c a b d e)
    ∙ ap (λ x. zip2 bit_xor (share_lanes c a b d e) x) (and_lists-is d e)
and_steps-is B c a b d e = shares-is c a b d e

module _ (c a b d e : List ℕ) (n : ℕ) (hc : length c ≡ n) (ha : length a ≡ n) (hb : length b ≡ n) (hd : length d ≡ n) (he : length e ≡ n) where
  ld : length (zip2 bit_and d b) ≡ n
  ld = length-zip2 bit_and d b (hd ∙ sym hb) ∙ hd

  le : length (zip2 bit_and e a) ≡ n
  le = length-zip2 bit_and e a (he ∙ sym ha) ∙ he

  lc : length (zip2 bit_xor c (zip2 bit_and d b)) ≡ n
  lc = length-zip2 bit_xor c _ (hc ∙ sym ld) ∙ hc

  ls : length (share_lanes c a b d e) ≡ n
  ls = length-zip2 bit_xor _ _ (lc ∙ sym le) ∙ lc

  lo : length (zip2 bit_and d e) ≡ n
  lo = length-zip2 bit_and d e (hd ∙ sym he) ∙ hd

  pub length-lanes_step : (site : Site) → length (lanes_step site c a b d e) ≡ n
  length-lanes_step A = length-zip2 bit_xor _ _ (ls ∙ sym lo) ∙ ls
  length-lanes_step B = ls

  chunk-share : (i : ℕ) → take 4 (drop i (share_lanes c a b d e))
      ≡ share_lanes (take 4 (drop i c)) (take 4 (drop i a)) (take 4 (drop i b)) (take 4 (drop i d)) (take 4 (drop i e))
  chunk-share i =
      chunk-zip2 bit_xor i (zip2 bit_xor c (zip2 bit_and d b)) (zip2 bit_and e a) (lc ∙ sym le)
      ∙ ap (λ x. zip2 bit_xor x (take 4 (drop i (zip2 bit_and e a)))) (chunk-zip2 bit_xor i c (zip2 bit_and d b) (hc ∙ sym ld))
      ∙ ap (λ x. zip2 bit_xor (zip2 bit_xor (take 4 (drop i c)) x) (take 4 (drop i (zip2 bit_and e a)))) (chunk-zip2 bit_and i d b (hd ∙ sym hb))
      ∙ ap (λ x. zip2 bit_xor (zip2 bit_xor (take 4 (drop i c)) (zip2 bit_and (take 4 (drop i d)) (take 4 (drop i b)))) x) (chunk-zip2 bit_and i e a (he ∙ sym ha))

  pub chunk-lanes_step : (site : Site) (i : ℕ) → take 4 (drop i (lanes_step site c a b d e))
      ≡ lanes_step site (take 4 (drop i c)) (take 4 (drop i a)) (take 4 (drop i b)) (take 4 (drop i d)) (take 4 (drop i e))
  chunk-lanes_step A i =
      chunk-zip2 bit_xor i (share_lanes c a b d e) (zip2 bit_and d e) (ls ∙ sym lo)
      ∙ ap (λ x. zip2 bit_xor x (take 4 (drop i (zip2 bit_and d e)))) (chunk-share i)
      ∙ ap (λ x. zip2 bit_xor (share_lanes (take 4 (drop i c)) (take 4 (drop i a)) (take 4 (drop i b)) (take 4 (drop i d)) (take 4 (drop i e))) x) (chunk-zip2 bit_and i d e (hd ∙ sym he))
  chunk-lanes_step B i = chunk-share i

  module _ (i : ℕ) (h : i < n) (vc va vb vd ve : ℕ) where
    at_share : get_or (share_lanes c a b d e) i 0 ≡ and_step B (get_or c i vc) (get_or a i va) (get_or b i vb) (get_or d i vd) (get_or e i ve)
    at_share =
        get_or-zip2 bit_xor (zip2 bit_xor c (zip2 bit_and d b)) (zip2 bit_and e a) i 0 0 0 (omega (arith, lc, h)) (omega (arith, le, h))
        ∙ ap (λ x. bit_xor x (get_or (zip2 bit_and e a) i 0)) (get_or-zip2 bit_xor c (zip2 bit_and d b) i vc 0 0 (omega (arith, hc, h)) (omega (arith, ld, h)))
        ∙ ap (λ x. bit_xor (bit_xor (get_or c i vc) x) (get_or (zip2 bit_and e a) i 0)) (get_or-zip2 bit_and d b i vd vb 0 (omega (arith, hd, h)) (omega (arith, hb, h)))
        ∙ ap (λ x. bit_xor (bit_xor (get_or c i vc) (bit_and (get_or d i vd) (get_or b i vb))) x) (get_or-zip2 bit_and e a i ve va 0 (omega (arith, he, h)) (omega (arith, ha, h)))

    pub at-lanes_step : (site : Site) → get_or (lanes_step site c a b d e) i 0 ≡ and_step site (get_or c i vc) (get_or a i va) (get_or b i vb) (get_or d i vd) (get_or e i ve)
    at-lanes_step A =
        get_or-zip2 bit_xor (share_lanes c a b d e) (zip2 bit_and d e) i 0 0 0 (omega (arith, ls, h)) (omega (arith, lo, h))
        ∙ ap (λ x. bit_xor x (get_or (zip2 bit_and d e) i 0)) at_share
        ∙ ap (λ x. bit_xor (and_step B (get_or c i vc) (get_or a i va) (get_or b i vb) (get_or d i vd) (get_or e i ve)) x) (get_or-zip2 bit_and d e i vd ve 0 (omega (arith, hd, h)) (omega (arith, he, h)))
    at-lanes_step B = at_share
