-- Sections word by word, and entries one by one.
use Rattle.std.proofs.Common.{◌≡◌, ℕ, suc, ◌+◌, ◌<◌, ◌≤◌, List, [], ◌∷◌, ◌++◌, length, get_or, drop, map, true, false, sym, ap, ◌∙◌, arith}
use Rattle.std.specs.Prelude.{◌==◌, ◌&&◌}
use Rattle.std.proofs.lemmas.List.FromFn.{map-range_with_len_more}
use Rattle.std.proofs.lemmas.Bool.{cond-true, cond-false}
use Rattle.std.proofs.Math.Seq.{drop-cons}
use Rattle.std.proofs.lemmas.List.{drop_all}
use Rattle.std.specs.declared.alloc.Global.{Global}
use Rattle.std.specs.declared.vec.Vec.{Vec}
use Rattle.pdn_dealer.specs.Tapes.{first_words, entry_of, words_for}

pub first_words_step : (word : ℕ → ℕ) (n : ℕ) (ws vs : List ℕ) (w : ℕ) → ws ≡ first_words word n → w ≡ word n → vs ≡ ws ++ w ∷ [] → vs ≡ first_words word (n + 1)
first_words_step word n ws vs w e f g = g ∙ rw (e, f) (sym (map-range_with_len_more word 0 n n (omega arith)))

-- ---- entries
abbrev pub Given : Type 0
Given = ℕ × ℕ × Vec ℕ Global

abbrev pub words_from : List Given → ℕ → ℕ → ℕ → List ℕ
words_from es k ticket unit = words_for (map entry_of (drop k es)) ticket unit

words_here : (es : List Given) (k ticket unit : ℕ) (e : Given) → k < length es → e ≡ get_or es k e
    → words_from es k ticket unit ≡ words_for (entry_of e ∷ map entry_of (drop (suc k) es)) ticket unit
words_here es k ticket unit e l h =
    ap (λ (gs : List Given). words_for (map entry_of gs) ticket unit) (drop-cons es k e l)
    ∙ ap (λ (g : Given). words_for (entry_of g ∷ map entry_of (drop (suc k) es)) ticket unit) (sym h)

pub entry_found : (es : List Given) (k ticket unit : ℕ) (e : Given) → k < length es → e ≡ get_or es k e → (e.0 == ticket && e.1 == unit) ≡ true
    → words_from es k ticket unit ≡ e.2.items
entry_found es k ticket unit e l h t = words_here es k ticket unit e l h ∙ cond-true (e.0 == ticket && e.1 == unit) _ _ t

pub entry_passed : (es : List Given) (k ticket unit : ℕ) (e : Given) → k < length es → e ≡ get_or es k e → (e.0 == ticket && e.1 == unit) ≡ false
    → words_from es k ticket unit ≡ words_from es (k + 1) ticket unit
entry_passed es k ticket unit e l h t =
    let next : suc k ≡ k + 1 = omega arith in
    words_here es k ticket unit e l h ∙ cond-false (e.0 == ticket && e.1 == unit) _ _ t
    ∙ ap (λ (j : ℕ). words_from es j ticket unit) next

pub entries_over : (es : List Given) (k ticket unit : ℕ) → length es ≤ k → words_from es k ticket unit ≡ []
entries_over es k ticket unit h = ap (λ (gs : List Given). words_for (map entry_of gs) ticket unit) (drop_all k es h)
