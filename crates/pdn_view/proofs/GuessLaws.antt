-- Each line of a view says what it was written of.
use Rattle.std.proofs.Common.{◌≡◌, ◌<◌, ◌^◌, ℕ, ◌+◌, true, List, [], ◌∷◌, map, drop, Option, Some, None, refl, sym, ap, subst, ◌∙◌, arith}
use Rattle.std.specs.Prelude.{get_or, codes, decimal}
use Rattle.std.specs.List.{AllByRecursion}
use Rattle.pdn_base.specs.declared.value.Value.{Value}
use Rattle.pdn_base.specs.declared.site.Site.{Site}
use Rattle.pdn_base.specs.Texts.{site_text}
use Rattle.pdn_gmw.specs.declared.views.GateView.{GateView}
use Rattle.pdn_view.specs.declared.view.Party.{Party}
use Rattle.pdn_view.specs.declared.due.Due.{Due}
use Rattle.pdn_view.specs.declared.due.Due.TheVariants.{Plain, Secure, Root, Outputs}
use Rattle.pdn_view.specs.declared.due.Counts.{Counts}
use Rattle.pdn_view.specs.Views.{ascends, IsValue, IsDirectory, IsWord, IsGate, AreCounts, Fits, no_counts}
use Rattle.pdn_view.specs.Lines.{Line, party_text, value_text, word_text, spaced, head_line, segment_line, counts_text, unit_line, word_line, gate_line}
use Rattle.pdn_view.specs.Guesses.{mapped, words, word, number_of, word_in, party_in, head_in, values_in, value_in, in_order, segment_in, counts_at, unmasked, outputs, counts_in, gate_in}
use Rattle.pdn_view.proofs.Checks.{both_true, both_some, mapped_some, cond_some}
use Rattle.pdn_view.proofs.Solid.{solid, solid_decimal, solid_value, solid_word, solid_site, solid_party}
use Rattle.pdn_view.proofs.Splits.{solids, words_spaced}
use Rattle.pdn_view.proofs.FieldLaws.{number_again, number_fits, value_again, value_fits, word_again, word_fits, party_again}

-- ---- the words of each line are solid

pub solid_head : (party : Party) (ticket : ℕ) → solids (head_line party ticket) ≡ true
solid_head party ticket = both_true (solid (party_text party)) _ (solid_party party) (both_true (solid (decimal ticket)) true (solid_decimal ticket) refl)

pub solid_values : (values : List Value) → AllByRecursion IsValue values → solids (map value_text values) ≡ true
solid_values [] h = refl
solid_values (v ∷ vs) h = both_true (solid (value_text v)) _ (solid_value v h.0) (solid_values vs h.1)

pub solid_segment : (number : ℕ) (site : Site) (values : List Value) → AllByRecursion IsValue values → solids (segment_line number site values) ≡ true
solid_segment number site values h =
    both_true (solid (decimal number)) _ (solid_decimal number) (both_true (solid (site_text site)) _ (solid_site site) (solid_values values h))

solid_counts : (c : Counts) → solids (counts_text c) ≡ true
solid_counts c =
    both_true (solid (decimal c.own)) _ (solid_decimal c.own) (both_true (solid (decimal c.other)) _ (solid_decimal c.other)
    (both_true (solid (decimal c.ands)) _ (solid_decimal c.ands) (both_true (solid (decimal c.masks)) true (solid_decimal c.masks) refl)))

-- the value that a unit is of
abbrev pub HasValue : Due → Type 0
HasValue (Plain site v) = IsValue v
HasValue (Secure v) = IsValue v
HasValue Root = Unit {0}
HasValue Outputs = Unit {0}

pub solid_unit : (number : ℕ) (due : Due) (c : Counts) → HasValue due → solids (unit_line number due c) ≡ true
solid_unit number (Plain site v) c h =
    both_true (solid (decimal number)) _ (solid_decimal number) (both_true (solid (site_text site)) _ (solid_site site) (both_true (solid (value_text v)) true (solid_value v h) refl))
solid_unit number (Secure v) c h =
    both_true (solid (decimal number)) _ (solid_decimal number) (both_true (solid (value_text v)) _ (solid_value v h) (solid_counts c))
solid_unit number Root c h = both_true (solid (decimal number)) _ (solid_decimal number) (solid_counts c)
solid_unit number Outputs c h =
    both_true (solid (decimal number)) _ (solid_decimal number) (both_true (solid (decimal c.own)) true (solid_decimal c.own) refl)

pub solid_word_line : (mark : List ℕ) (w : ℕ) → solid mark ≡ true → solids (word_line mark w) ≡ true
solid_word_line mark w h = both_true (solid mark) _ h (both_true (solid (word_text w)) true (solid_word w) refl)

pub solid_gate_line : (g : GateView) → solids (gate_line g) ≡ true
solid_gate_line g =
    both_true (solid (word_text g.a)) _ (solid_word g.a) (both_true (solid (word_text g.b)) _ (solid_word g.b) (both_true (solid (word_text g.c)) _ (solid_word g.c)
    (both_true (solid (word_text g.d)) _ (solid_word g.d) (both_true (solid (word_text g.e)) true (solid_word g.e) refl))))

-- ---- what is guessed of a line

-- the words of a line, from its first one
pub word_of_line : (w : List ℕ) (ws : Line) (place : ℕ) → solids (w ∷ ws) ≡ true → word (spaced (w ∷ ws)) place ≡ get_or (w ∷ ws) place []
word_of_line w ws place e = ap (λ (xs : Line). get_or xs place []) (words_spaced w ws e)

pub head_again : (party : Party) (ticket : ℕ) → ticket < 2 ^ 64 → head_in (spaced (head_line party ticket)) ≡ Some (party, ticket)
head_again party ticket h =
    let line : List ℕ = spaced (head_line party ticket) in
    let one : word line 1 ≡ party_text party = word_of_line (codes "view") (party_text party ∷ codes "ticket" ∷ decimal ticket ∷ []) 1 (solid_head party ticket) in
    let two : word line 3 ≡ decimal ticket = word_of_line (codes "view") (party_text party ∷ codes "ticket" ∷ decimal ticket ∷ []) 3 (solid_head party ticket) in
    rw (one, two, party_again party, number_again ticket h) refl

values_again : (values : List Value) → AllByRecursion IsValue values → values_in (map value_text values) ≡ Some values
values_again [] h = refl
values_again (v ∷ vs) h = rw (value_again v h.0, values_again vs h.1) refl

pub segment_again : (number : ℕ) (site : Site) (values : List Value) → IsDirectory values → segment_in (spaced (segment_line number site values)) ≡ Some values
segment_again number site values h =
    rw (words_spaced (codes "segment") (decimal number ∷ site_text site ∷ map value_text values) (solid_segment number site values h.values), values_again values h.values, h.order) refl

counts_again : (place : ℕ) (line : List ℕ) (c : Counts) → AreCounts c
    → word line place ≡ decimal c.own → word line (place + 2) ≡ decimal c.other → word line (place + 4) ≡ decimal c.ands → word line (place + 6) ≡ decimal c.masks
    → counts_at place line ≡ Some c
unfolding counts_at
counts_again place line c h a b d e =
    rw (a, b, d, e, number_again c.own h.own, number_again c.other h.other, number_again c.ands h.ands, number_again c.masks h.masks) refl

pub unit_again : (number : ℕ) (due : Due) (c : Counts) → HasValue due → Fits due c → AreCounts c → counts_in due (spaced (unit_line number due c)) ≡ Some c
unit_again number (Plain site v) c val fits h = ap Some (sym fits)
unit_again number (Secure v) c val fits h =
    let at : (place : ℕ) → word (spaced (unit_line number (Secure v) c)) place ≡ get_or (unit_line number (Secure v) c) place [] =
    λ place. word_of_line (codes "unit") (decimal number ∷ codes "secure" ∷ value_text v ∷ counts_text c) place (solid_unit number (Secure v) c val) in
    let same : unmasked c ≡ c = ap (λ (m : ℕ). record { own = c.own; other = c.other; ands = c.ands; masks = m }) (sym fits) in
    ap (mapped unmasked) (counts_again 5 (spaced (unit_line number (Secure v) c)) c h (at 5) (at 7) (at 9) (at 11)) ∙ ap Some same
unit_again number Root c val fits h =
    let at : (place : ℕ) → word (spaced (unit_line number Root c)) place ≡ get_or (unit_line number Root c) place [] =
    λ place. word_of_line (codes "unit") (decimal number ∷ codes "root" ∷ counts_text c) place (solid_unit number Root c val) in
    counts_again 4 (spaced (unit_line number Root c)) c h (at 4) (at 6) (at 8) (at 10)
unit_again number Outputs c val fits h =
    let three : word (spaced (unit_line number Outputs c)) 3 ≡ decimal c.own = word_of_line (codes "root") (decimal number ∷ codes "words" ∷ decimal c.own ∷ []) 3 (solid_unit number Outputs c val) in
    rw (three, number_again c.own h.own) (ap Some (sym fits))

pub word_line_again : (mark : List ℕ) (w : ℕ) → solid mark ≡ true → IsWord w → word_in (word (spaced (word_line mark w)) 1) ≡ Some w
word_line_again mark w m h = ap word_in (word_of_line mark (word_text w ∷ []) 1 (solid_word_line mark w m)) ∙ word_again w h

pub gate_line_again : (g : GateView) → IsGate g → gate_in (spaced (gate_line g)) ≡ Some g
unfolding gate_in
gate_line_again g h =
    let line : List ℕ = spaced (gate_line g) in
    let at : (place : ℕ) → word line place ≡ get_or (gate_line g) place [] =
    λ place. word_of_line (codes "g") (word_text g.a ∷ word_text g.b ∷ word_text g.c ∷ word_text g.d ∷ word_text g.e ∷ []) place (solid_gate_line g) in
    let one : word line 1 ≡ word_text g.a = at 1 in
    let two : word line 2 ≡ word_text g.b = at 2 in
    let three : word line 3 ≡ word_text g.c = at 3 in
    let four : word line 4 ≡ word_text g.d = at 4 in
    let five : word line 5 ≡ word_text g.e = at 5 in
    rw (one, two, three, four, five, word_again g.a h.a, word_again g.b h.b, word_again g.c h.c, word_again g.d h.d, word_again g.e h.e) refl

-- ---- what is guessed is of its type

pub head_fits : (line : List ℕ) (x : Party × ℕ) → head_in line ≡ Some x → x.1 < 2 ^ 64
head_fits line x e =
    let b = both_some (λ party ticket. (party, ticket)) (party_in (word line 1)) (number_of (word line 3)) x e in
    subst (λ (y : Party × ℕ). y.1 < 2 ^ 64) b.4 (number_fits (word line 3) b.1 b.3)

values_fit : (ws : Line) (values : List Value) → values_in ws ≡ Some values → AllByRecursion IsValue values
values_fit [] values e = let is : [] ≡ values = cc e in subst (AllByRecursion IsValue) is tt
values_fit (w ∷ ws) values e =
    let b = both_some (λ v vs. v ∷ vs) (value_in w) (values_in ws) values e in
    subst (AllByRecursion IsValue) b.4 (value_fits w b.0 b.2, values_fit ws b.1 b.3)

in_order_fits : (o : Option (List Value)) (values : List Value) → in_order o ≡ Some values → (o ≡ Some values) × (ascends values ≡ true)
in_order_fits None values e = absurd cc
in_order_fits (Some vs) values e =
    let c = cond_some (ascends vs) (Some vs) values e in
    let is : vs ≡ values = cc (c.1) in
    (c.1, subst (λ (x : List Value). ascends x ≡ true) is c.0)

pub segment_fits : (line : List ℕ) (values : List Value) → segment_in line ≡ Some values → IsDirectory values
segment_fits line values e =
    let i = in_order_fits (values_in (drop 3 (words line))) values e in
    record { order = i.1; values = values_fit (drop 3 (words line)) values i.0 }

counts_fit : (place : ℕ) (line : List ℕ) (c : Counts) → counts_at place line ≡ Some c → AreCounts c
unfolding counts_at
counts_fit place line c e =
    let all = both_some _ _ _ c e in
    let first = both_some _ (number_of (word line place)) (number_of (word line (place + 2))) all.0 all.2 in
    let last = both_some _ (number_of (word line (place + 4))) (number_of (word line (place + 6))) all.1 all.3 in
    subst AreCounts all.4 (record {
      own = subst (λ (x : ℕ × ℕ). x.0 < 2 ^ 64) first.4 (number_fits (word line place) first.0 first.2);
      other = subst (λ (x : ℕ × ℕ). x.1 < 2 ^ 64) first.4 (number_fits (word line (place + 2)) first.1 first.3);
      ands = subst (λ (x : ℕ × ℕ). x.0 < 2 ^ 64) last.4 (number_fits (word line (place + 4)) last.0 last.2);
      masks = subst (λ (x : ℕ × ℕ). x.1 < 2 ^ 64) last.4 (number_fits (word line (place + 6)) last.1 last.3);
    })

pub unit_fits : (due : Due) (line : List ℕ) (c : Counts) → counts_in due line ≡ Some c → Fits due c × AreCounts c
unit_fits (Plain site v) line c e =
    let is : no_counts ≡ c = cc e in
    (sym is, subst AreCounts is (record { own = omega arith; other = omega arith; ands = omega arith; masks = omega arith }))
unit_fits (Secure v) line c e =
    let m = mapped_some unmasked (counts_at 5 line) c e in
    let k = counts_fit 5 line m.0 m.1 in
    (ap (λ (x : Counts). x.masks) (sym m.2), subst AreCounts m.2 (record { own = k.own; other = k.other; ands = k.ands; masks = omega arith }))
unit_fits Root line c e = (tt, counts_fit 4 line c e)
unit_fits Outputs line c e =
    let m = mapped_some outputs (number_of (word line 3)) c e in
    let n = number_fits (word line 3) m.0 m.1 in (
      subst (λ (x : Counts). x ≡ record { own = x.own; other = x.own; ands = 0; masks = 0 }) m.2 refl,
      subst AreCounts m.2 (record { own = n; other = n; ands = omega arith; masks = omega arith }),
    )

pub gate_fits : (line : List ℕ) (g : GateView) → gate_in line ≡ Some g → IsGate g
unfolding gate_in
gate_fits line g e =
    let all = both_some _ _ _ g e in
    let x = both_some _ (word_in (word line 1)) _ all.0 all.2 in
    let y = both_some _ (word_in (word line 2)) (word_in (word line 3)) x.1 x.3 in
    let z = both_some _ (word_in (word line 4)) (word_in (word line 5)) all.1 all.3 in
    subst IsGate all.4 (record {
      a = subst (λ (p : ℕ × (ℕ × ℕ)). IsWord p.0) x.4 (word_fits (word line 1) x.0 x.2);
      b = subst (λ (p : ℕ × (ℕ × ℕ)). IsWord p.1.0) x.4 (subst (λ (p : ℕ × ℕ). IsWord p.0) y.4 (word_fits (word line 2) y.0 y.2));
      c = subst (λ (p : ℕ × (ℕ × ℕ)). IsWord p.1.1) x.4 (subst (λ (p : ℕ × ℕ). IsWord p.1) y.4 (word_fits (word line 3) y.1 y.3));
      d = subst (λ (p : ℕ × ℕ). IsWord p.0) z.4 (word_fits (word line 4) z.0 z.2);
      e = subst (λ (p : ℕ × ℕ). IsWord p.1) z.4 (word_fits (word line 5) z.1 z.3);
    })
