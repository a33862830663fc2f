-- Lines cut into words, and texts into lines.
use Rattle.std.proofs.Common.{◌≡◌, ℕ, Bool, true, false, eqb, List, [], ◌∷◌, ◌++◌, refl, ap, ◌∙◌, append_assoc, arith}
use Rattle.std.specs.Prelude.{not}
use Rattle.std.specs.List.{list_all, slice_split, onto_first}
use Rattle.std.proofs.lemmas.Bool.{eq-eqb}
use Rattle.std.proofs.lemmas.List.Folds.{list_all-append}
use Rattle.std.proofs.lemmas.List.Splits.{slice_split-cons_yes, slice_split-cons_no}
use Rattle.pdn_view.specs.Lines.{Line, spaced}
use Rattle.pdn_view.specs.Guesses.{words}
use Rattle.pdn_view.specs.Cuts.{without}
use Rattle.pdn_view.specs.Faults.{ended, ended_lines, is_line}
use Rattle.pdn_view.proofs.Checks.{and_true, both_true}
use Rattle.pdn_view.proofs.Solid.{solid, solid_without}

not_true : (b : Bool) → not b ≡ true → b ≡ false
not_true true e = absurd cc
not_true false e = refl

-- the first part ends where the byte first stands
pub split_at : (byte : ℕ) (front rest : List ℕ) → without byte front ≡ true → slice_split (λ b. eqb b byte) (front ++ byte ∷ rest) ≡ front ∷ slice_split (λ b. eqb b byte) rest
split_at byte [] rest e = slice_split-cons_yes (λ b. eqb b byte) byte rest (eq-eqb byte byte refl)
split_at byte (x ∷ xs) rest e =
    let h = and_true (not (eqb x byte)) (without byte xs) e in
    slice_split-cons_no (λ b. eqb b byte) x (xs ++ byte ∷ rest) (not_true (eqb x byte) h.0)
    ∙ ap (onto_first x) (split_at byte xs rest h.1)

pub split_none : (byte : ℕ) (text : List ℕ) → without byte text ≡ true → slice_split (λ b. eqb b byte) text ≡ text ∷ []
split_none byte [] e = refl
split_none byte (x ∷ xs) e =
    let h = and_true (not (eqb x byte)) (without byte xs) e in
    slice_split-cons_no (λ b. eqb b byte) x xs (not_true (eqb x byte) h.0) ∙ ap (onto_first x) (split_none byte xs h.1)

-- ---- words

abbrev pub solids : Line → Bool
solids line = list_all solid line

pub words_spaced : (w : List ℕ) (ws : Line) → solids (w ∷ ws) ≡ true → words (spaced (w ∷ ws)) ≡ w ∷ ws
words_spaced w [] e = split_none 32 w (solid_without 32 (omega arith) w (and_true (solid w) true e).0)
words_spaced w (x ∷ xs) e =
    let h = and_true (solid w) (solids (x ∷ xs)) e in
    split_at 32 w (spaced (x ∷ xs)) (solid_without 32 (omega arith) w h.0) ∙ ap (λ (ws : Line). w ∷ ws) (words_spaced x xs h.1)

-- no line feed stands in a line
pub line_spaced : (line : Line) → solids line ≡ true → is_line (spaced line) ≡ true
line_spaced [] e = refl
line_spaced (w ∷ []) e = solid_without 10 (omega arith) w (and_true (solid w) true e).0
line_spaced (w ∷ x ∷ xs) e =
    let h = and_true (solid w) (solids (x ∷ xs)) e in
    list_all-append (λ other. not (eqb other 10)) w (32 ∷ spaced (x ∷ xs))
    ∙ both_true (is_line w) (is_line (spaced (x ∷ xs))) (solid_without 10 (omega arith) w h.0) (line_spaced (x ∷ xs) h.1)

-- ---- lines

-- what lines and a rest are cut into
pub split_lines : (lines : List (List ℕ)) (rest : List ℕ) → list_all is_line lines ≡ true
    → slice_split (λ b. eqb b 10) (ended_lines lines ++ rest) ≡ lines ++ slice_split (λ b. eqb b 10) rest
split_lines [] rest e = refl
split_lines (l ∷ ls) rest e =
    let h = and_true (is_line l) (list_all is_line ls) e in
    ap (slice_split (λ b. eqb b 10)) (append_assoc (ended l) (ended_lines ls) rest ∙ append_assoc l (10 ∷ []) (ended_lines ls ++ rest))
    ∙ split_at 10 l (ended_lines ls ++ rest) h.0 ∙ ap (λ (xs : List (List ℕ)). l ∷ xs) (split_lines ls rest h.1)
