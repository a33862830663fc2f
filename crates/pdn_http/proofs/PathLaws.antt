-- The paths that the router of the one route finds.
use Rattle.std.proofs.Common.{◌≡◌, ◌≢◌, List, [], ◌∷◌, ◌++◌, ℕ, zero, suc, ◌+◌, ◌-◌, ◌<◌, ◌^◌, Bool, true, false, length, Some, None, refl, ap, ◌∙◌, rules, arith, cond, ltb, ne_eqb, eq-eqb, codes, drop, length-append, lt_irrefl, mod-lt, ◌%◌}
use Rattle.std.proofs.Math.Seq.{drop-append_seam}
use Rattle.std.specs.Prelude.{Option, ◌==◌, decimal}
use native.Mathlib.Numerals.{unary_clauses}
use Rattle.std.proofs.lemmas.Bool.Decides.{nat_tests}
use Rattle.matchit.specs.Rows.{RowsOf, param_token}
use Rattle.matchit.specs.Seek.{first, seek, own, or_else, param_step, has_slash, segment}
use Rattle.std.proofs.lemmas.Fmt.{decimal_by_steps}
use borrow.Author.Tests.{ltb-true}
use Rattle.pdn_schema.specs.Names.{is_name, is_name_byte, all_name_bytes}
use Rattle.pdn_schema.proofs.NameLaws.{and_true, name_bytes_of}
use Rattle.pdn_http.specs.Routes.{Part, IsPart, call_path, call_pattern}

-- the bytes of a literal, which are no tokens
abbrev pub Plain : List ℕ → Type 0
Plain [] = Unit {0}
Plain (b ∷ bs) = (b < 256) × Plain bs

seg_then : (c rest : List ℕ) → Part c → segment (c ++ 47 ∷ rest) ≡ c ++ 47 ∷ []
seg_then [] rest p = refl
seg_then (b ∷ c) rest p = let n : (b == 47) ≡ false = ne_eqb b 47 p.1 in rw n (ap (λ l. b ∷ l) (seg_then c rest p.2))

seg_last : (c : List ℕ) → Part c → segment c ≡ c
seg_last [] p = refl
seg_last (b ∷ c) p = let n : (b == 47) ≡ false = ne_eqb b 47 p.1 in rw n (ap (λ l. b ∷ l) (seg_last c p.2))

no_slash : (c : List ℕ) → Part c → has_slash c ≡ false
no_slash [] p = refl
no_slash (b ∷ c) p = let n : (b == 47) ≡ false = ne_eqb b 47 p.1 in rw n (no_slash c p.2)

cut_at : (c : List ℕ) → drop (length (c ++ 47 ∷ []) - 1) (c ++ 47 ∷ []) ≡ 47 ∷ []
cut_at c = let l = length-append c (47 ∷ []) in let m : length (c ++ 47 ∷ []) - 1 ≡ length c = omega arith in rw m (drop-append_seam c (47 ∷ []))

more_than_one : (n : ℕ) → 1 < n → ltb 1 n ≡ true
more_than_one n h = grind (arith, nat_tests)

module _ {K : Type 0} where
  abbrev pub row : List ℕ → K → RowsOf K
  row t key = (t, key) ∷ []

  abbrev nothing : RowsOf K
  nothing = []

  pick : (b : Bool) (n m : ℕ) → (cond {A = ℕ × RowsOf K} b (n, nothing) (m, nothing)).1 ≡ nothing
  pick true n m = refl
  pick false n m = refl

  no_param : (path : List ℕ) → (param_step nothing path).1 ≡ nothing
  unfolding param_step
  no_param path = pick (has_slash path) 0 (length path)

  pub none_here : (n : ℕ) (path : List ℕ) → seek n nothing path ≡ None
  unfolding seek
  none_here n [] = refl
  none_here (suc n) (b ∷ path) = none_here n path
  none_here zero (b ∷ path) = rw (none_here 0 path, no_param (b ∷ path), none_here ((param_step nothing (b ∷ path)).0 - 1) path) refl

  or_none : (x : Option K) → or_else x (or_else None None) ≡ x
  or_none None = refl
  or_none (Some k) = refl

  -- a byte that the route has goes on
  pub byte_here : (b : ℕ) (t path : List ℕ) (key : K) → b < 256 → seek 0 (row (b ∷ t) key) (b ∷ path) ≡ seek 0 (row t key) path
  unfolding seek
  byte_here b t path key low =
      let here : (b == b) ≡ true = eq-eqb b b refl in
      let p : (b == 256) ≡ false = ne_eqb b 256 (λ e. omega arith) in
      let a : (b == 257) ≡ false = ne_eqb b 257 (λ e. omega arith) in
      rw (here, p, a, no_param (b ∷ path), none_here ((param_step nothing (b ∷ path)).0 - 1) path) (or_none (seek 0 (row t key) path))

  pub literal : (pre t path : List ℕ) (key : K) → Plain pre → seek 0 (row (pre ++ t) key) (pre ++ path) ≡ seek 0 (row t key) path
  literal [] t path key p = refl
  literal (b ∷ pre) t path key p = byte_here b (pre ++ t) (pre ++ path) key p.0 ∙ literal pre t path key p.1

  skips : (c q : List ℕ) (rs : RowsOf K) → seek (length c) rs (c ++ q) ≡ seek 0 rs q
  unfolding seek
  skips [] q rs = refl
  skips (b ∷ c) q rs = skips c q rs

  taken : (b : ℕ) (c rest t : List ℕ) (key : K) → Part (b ∷ c) → param_step (row (47 ∷ t) key) (b ∷ c ++ 47 ∷ rest) ≡ (length c + 1, row (47 ∷ t) key)
  unfolding param_step
  taken b c rest t key p =
      let s = seg_then (b ∷ c) rest p in
      let l = length-append c (47 ∷ []) in
      let long : ltb 1 (length (b ∷ c ++ 47 ∷ [])) ≡ true = more_than_one _ (omega arith) in
      let last : drop (length (b ∷ c ++ 47 ∷ []) - 1) (b ∷ c ++ 47 ∷ []) ≡ 47 ∷ [] = cut_at (b ∷ c) in
      let n : length (b ∷ c ++ 47 ∷ []) - 1 ≡ length c + 1 = omega arith in
      rw (s, long, last) (ap (λ k. (k, row (47 ∷ t) key)) n)

  -- a parameter takes a part, up to the slash that the route has
  pub middle : (b : ℕ) (c rest t : List ℕ) (key : K) → Part (b ∷ c) → seek 0 (row (param_token ∷ 47 ∷ t) key) (b ∷ c ++ 47 ∷ rest) ≡ seek 0 (row t key) rest
  unfolding seek
  middle b c rest t key p =
      let n : (256 == b) ≡ false = ne_eqb 256 b (λ e. let h = p.0 in omega arith) in
      let k : length c + 1 - 1 ≡ length c = omega arith in
      rw (n, none_here 0 (c ++ 47 ∷ rest), taken b c rest t key p, k, skips c (47 ∷ rest) (row (47 ∷ t) key)) (ap (λ x. or_else x None) (byte_here 47 t rest key (omega arith)) ∙ or_none (seek 0 (row t key) rest))

  skips_all : (c : List ℕ) (rs : RowsOf K) → seek (length c) rs c ≡ own rs
  unfolding seek
  skips_all [] rs = refl
  skips_all (b ∷ c) rs = skips_all c rs

  rest_taken : (b : ℕ) (c : List ℕ) (key : K) → Part (b ∷ c) → param_step (row [] key) (b ∷ c) ≡ (length c + 1, row [] key)
  unfolding param_step
  rest_taken b c key p = let h = no_slash (b ∷ c) p in rw h (simp unary_clauses refl)

  -- a parameter at the route's end takes the last part
  pub last : (b : ℕ) (c : List ℕ) (key : K) → Part (b ∷ c) → seek 0 (row (param_token ∷ []) key) (b ∷ c) ≡ Some key
  unfolding seek
  last b c key p =
      let n : (256 == b) ≡ false = ne_eqb 256 b (λ e. let h = p.0 in omega arith) in
      let k : length c + 1 - 1 ≡ length c = omega arith in
      rw (n, none_here 0 c, rest_taken b c key p, k, skips_all c (row [] key)) refl

pub finds : {K : Type 0} (b : ℕ) (c : List ℕ) (d : ℕ) (e : List ℕ) (key : K) → Part (b ∷ c) → Part (d ∷ e)
    → first (row call_pattern key) (codes "/callers/" ++ (b ∷ c ++ (codes "/queries/" ++ (d ∷ e)))) ≡ Some key
finds b c d e key p q =
    literal (codes "/callers/") (param_token ∷ codes "/queries/" ++ (param_token ∷ [])) (b ∷ c ++ (codes "/queries/" ++ (d ∷ e))) key (search rules)
    ∙ middle b c (codes "queries/" ++ (d ∷ e)) (codes "queries/" ++ (param_token ∷ [])) key p
    ∙ literal (codes "queries/") (param_token ∷ []) (d ∷ e) key (search rules)
    ∙ last d e key q

pub finds_path : {K : Type 0} (c n : List ℕ) (key : K) → IsPart c → IsPart n → first (row call_pattern key) (call_path c n) ≡ Some key
finds_path [] n key p q = absurd p
finds_path (b ∷ c) [] key p q = absurd q
finds_path (b ∷ c) (d ∷ e) key p q = finds b c d e key p q

-- ---- a name and a number are parts

byte_part : (b : ℕ) → is_name_byte b ≡ true → (b < 256) × (b ≢ 47)
byte_part b e = (grind (arith, nat_tests), λ is. grind (arith, nat_tests))

name_part : (w : List ℕ) → all_name_bytes w ≡ true → Part w
name_part [] e = tt
name_part (b ∷ w) e =
    let each = and_true (is_name_byte b) (all_name_bytes w) e in
    let p = byte_part b each.0 in
    (p.0, p.1, name_part w each.1)

some_part : (w : List ℕ) → 0 < length w → Part w → IsPart w
some_part [] some p = absurd (lt_irrefl 0 some)
some_part (b ∷ w) some p = p

name_some : (w : List ℕ) → is_name w ≡ true → 0 < length w
unfolding is_name
name_some w e =
    let first = (and_true _ _ (and_true _ _ (and_true _ _ e).0).0).0 in
    ltb-true 0 (length w) (and_true _ _ first).0

pub name_part_of : (w : List ℕ) → is_name w ≡ true → Part w
name_part_of w e = name_part w (name_bytes_of w e)

pub name_is_part : (w : List ℕ) → is_name w ≡ true → IsPart w
name_is_part w e = some_part w (name_some w e) (name_part w (name_bytes_of w e))

Part-snoc : (ds : List ℕ) (d : ℕ) → d < 256 → d ≢ 47 → Part ds → Part (ds ++ d ∷ [])
Part-snoc [] d low other p = (low, other, tt)
Part-snoc (b ∷ ds) d low other p = (p.0, p.1, Part-snoc ds d low other p.2)

IsPart-snoc : (ds : List ℕ) (d : ℕ) → d < 256 → d ≢ 47 → IsPart ds → IsPart (ds ++ d ∷ [])
IsPart-snoc [] d low other p = absurd p
IsPart-snoc (b ∷ ds) d low other p = Part-snoc (b ∷ ds) d low other p

pub decimal_is_part : (n : ℕ) → n < 2 ^ 64 → IsPart (decimal n)
decimal_is_part n fits = decimal_by_steps (λ m ds. IsPart ds)
    (λ m low. (omega (arith, low), λ e. omega (arith, e), tt))
    (λ m ds high part. let d : m % 10 < 10 = mod-lt m (omega arith) in IsPart-snoc ds (48 + m % 10) (omega (arith, d)) (λ e. omega (arith, e)) part)
    n fits
