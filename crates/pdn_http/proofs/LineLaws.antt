-- The lines of a head, by their names.
use Rattle.std.proofs.Common.{◌≡◌, List, [], ◌∷◌, ℕ, Bool, true, false, ◌||◌, refl, sym, ap, arith, cond, length, map, take, ◌≤◌, suc}
use Rattle.std.proofs.lemmas.Bool.{false≢true}
use Rattle.std.proofs.lemmas.List.Elements.{recursion_from_All}
use Rattle.std.proofs.Common.{length-take}
use Rattle.std.specs.List.{AllByRecursion, filter, list_any}
use Rattle.std.specs.Prelude.{Err}
use Rattle.httparse.specs.declared.spans.HeaderSpan.{HeaderSpan}
use Rattle.httparse.specs.Grammar.{RequestHead}
use Rattle.httparse.specs.Spans.{IsSectionWithin, IsHeaderWithin, AreFieldsAt, header_bytes, name_and_value}
use Rattle.pdn_http.specs.declared.refusal.Refusal.TheVariants.{Request}
use Rattle.pdn_http.specs.Heads.{has_name, values_of}
use Rattle.pdn_http.specs.Requests.{body_size}

neither : (a b : Bool) → (a || b) ≡ false → (a ≡ false) × (b ≡ false)
neither true b e = absurd (false≢true (sym e))
neither false b e = (refl, e)

-- no line of this name
pub none_named : (name : List ℕ) (lines : List (List ℕ × List ℕ)) → list_any (has_name name) lines ≡ false → values_of name lines ≡ []
none_named name [] e = refl
none_named name (line ∷ lines) e =
    let each = neither (has_name name line) (list_any (has_name name) lines) e in
    rw each.0 (none_named name lines each.1)

-- some line of this name
first_named : (name text : List ℕ) (line : List ℕ × List ℕ) (lines : List (List ℕ × List ℕ)) (named : Bool) → named ≡ has_name name line
    → (list_any (has_name name) lines ≡ true → body_size (text ∷ values_of name lines) ≡ Err Request)
    → (named || list_any (has_name name) lines) ≡ true
    → body_size (text ∷ map (λ (l : List ℕ × List ℕ). l.1) (cond named (line ∷ filter (has_name name) lines) (filter (has_name name) lines))) ≡ Err Request
first_named name text line lines true is later e = refl
first_named name text line lines false is later e = later e

pub again_named : (name text : List ℕ) (lines : List (List ℕ × List ℕ)) → list_any (has_name name) lines ≡ true → body_size (text ∷ values_of name lines) ≡ Err Request
again_named name text [] e = absurd (false≢true e)
again_named name text (line ∷ lines) e = first_named name text line lines (has_name name line) refl (again_named name text lines) e

-- the lines of a head lie within the bytes
weaker : (n m : ℕ) → n ≤ m → (lines : List HeaderSpan) → AllByRecursion (IsHeaderWithin n) lines → AllByRecursion (IsHeaderWithin m) lines
weaker n m h [] all = tt
weaker n m h (line ∷ lines) all =
    let l = all.0 in
    (((l.0.0, omega (arith, l.0.1, h)), (l.1.0, omega (arith, l.1.1, h))), weaker n m h lines all.1)

pub lines_within : (bytes : List ℕ) (lines : List HeaderSpan) (len count : ℕ) → IsSectionWithin bytes lines len count
    → AllByRecursion (IsHeaderWithin (length bytes)) (take count lines)
lines_within bytes lines len count within = weaker len (length bytes) within.len_fits (take count lines) (recursion_from_All (IsHeaderWithin len) (take count lines) within.headers_fit)

-- a head has no more lines than there is room for
length_map : {A B : Type 0} (f : A → B) (xs : List A) → length (map f xs) ≡ length xs
length_map f [] = refl
length_map f (x ∷ xs) = ap (λ n. suc n) (length_map f xs)

pub few_lines : (bytes : List ℕ) (lines : List HeaderSpan) (count most : ℕ) (h : RequestHead) → AreFieldsAt bytes lines count h.fields
    → length lines ≤ most → length h.fields ≤ most
few_lines bytes lines count most h same fits =
    let theirs = length_map (header_bytes bytes) (take count lines) in
    let ours = length_map name_and_value h.fields in
    let both = ap length same in
    let cut = length-take count lines in
    omega (arith, theirs, ours, both, cut, fits)
