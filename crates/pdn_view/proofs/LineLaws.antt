-- Lines as bytes.
use Rattle.std.proofs.Common.{◌≡◌, ◌<◌, ℕ, ◌+◌, List, [], ◌∷◌, ◌++◌, map, take, length, get_or, sym, ap, ◌∙◌, append_assoc, arith}
use Rattle.std.specs.List.{flat_map}
use Rattle.std.proofs.lemmas.List.{append-nil, map_more, take_more, length-map, length-take-le}
use Rattle.std.proofs.lemmas.List.Concat.{flat_map-cons}
use Rattle.std.proofs.lemmas.List.Folds.{flat_map-map}
use Rattle.std.proofs.lemmas.Grind.{flat_map-append}
use Rattle.pdn_base.specs.declared.value.Value.{Value}
use Rattle.pdn_base.specs.declared.site.Site.{Site}
use Rattle.pdn_base.specs.Texts.{site_text}
use Rattle.pdn_base.specs.declared.site.Site.TheVariants.{A, B}
use Rattle.pdn_site.specs.Models.{Dirs}
use Rattle.pdn_view.specs.declared.view.UnitPart.{UnitPart}
use Rattle.pdn_view.specs.Views.{Part, part_of}
use Rattle.pdn_view.specs.Lines.{Line, value_text, spaced, segment_line, segment_lines, part_lines, parts_lines, line_text, lines_text}

-- words behind a first one, each behind a blank
pub joined_is : (w : List ℕ) (ws : Line) → spaced (w ∷ ws) ≡ w ++ flat_map (λ x. 32 ∷ x) ws
joined_is w [] = sym (append-nil w)
joined_is w (x ∷ xs) = ap (λ (t : List ℕ). w ++ 32 ∷ t) (joined_is x xs) ∙ ap (λ (t : List ℕ). w ++ t) (sym (flat_map-cons (λ (y : List ℕ). 32 ∷ y) x xs))

-- a site and values, each behind a blank
pub values_are : (site : Site) (values : List Value) → spaced (site_text site ∷ map value_text values) ≡ site_text site ++ flat_map (λ v. 32 ∷ value_text v) values
values_are site values = joined_is (site_text site) (map value_text values) ∙ ap (λ (t : List ℕ). site_text site ++ t) (flat_map-map (λ (y : List ℕ). 32 ∷ y) value_text values)

-- ---- many lines

pub lines_more : (xs ys : List Line) → lines_text (xs ++ ys) ≡ lines_text xs ++ lines_text ys
lines_more xs ys = flat_map-append line_text xs ys

pub one_line : (x : Line) → lines_text (x ∷ []) ≡ line_text x
one_line x = flat_map-cons line_text x [] ∙ append-nil (line_text x)

-- the loop over things that have a line each
pub lines_next : {X : Type 0} (f : X → Line) (xs : List X) (i : ℕ) (x : X) (before old new : List ℕ) → i < length xs → x ≡ get_or xs i x
    → old ≡ before ++ lines_text (map f (take i xs)) → new ≡ old ++ line_text (f x) → new ≡ before ++ lines_text (map f (take (i + 1) xs))
lines_next f xs i x before old new lt is so_far added =
    let more : map f (take (i + 1) xs) ≡ map f (take i xs) ++ f x ∷ [] = map_more f xs i x lt ∙ ap (λ y. map f (take i xs) ++ f y ∷ []) (sym is) in
    added ∙ ap (λ (t : List ℕ). t ++ line_text (f x)) so_far ∙ append_assoc before (lines_text (map f (take i xs))) (line_text (f x))
    ∙ ap (λ (t : List ℕ). before ++ t) (ap (λ (t : List ℕ). lines_text (map f (take i xs)) ++ t) (sym (one_line (f x))) ∙ sym (lines_more (map f (take i xs)) (f x ∷ [])) ∙ ap lines_text (sym more))

-- ---- segments and units

pub segments_more : (n : ℕ) (ds : List Dirs) (d : Dirs)
    → segment_lines n (ds ++ d ∷ []) ≡ segment_lines n ds ++ segment_line (n + length ds) A d.a ∷ segment_line (n + length ds) B d.b ∷ []
segments_more n [] d =
    let k : n ≡ n + 0 = omega arith in
    ap (λ (i : ℕ). segment_line i A d.a ∷ segment_line i B d.b ∷ []) k
segments_more n (x ∷ xs) d =
    let k : (n + 1) + length xs ≡ n + length (x ∷ xs) = omega arith in
    ap (λ (ls : List Line). segment_line n A x.a ∷ segment_line n B x.b ∷ ls)
    (segments_more (n + 1) xs d ∙ ap (λ (i : ℕ). segment_lines (n + 1) xs ++ segment_line i A d.a ∷ segment_line i B d.b ∷ []) k)

pub parts_more : (n : ℕ) (ps : List Part) (p : Part) → parts_lines n (ps ++ p ∷ []) ≡ parts_lines n ps ++ part_lines (n + length ps) p
parts_more n [] p =
    let k : n ≡ n + 0 = omega arith in
    append-nil (part_lines n p) ∙ ap (λ (i : ℕ). part_lines i p) k
parts_more n (x ∷ xs) p =
    let k : (n + 1) + length xs ≡ n + length (x ∷ xs) = omega arith in
    ap (λ (ls : List Line). part_lines n x ++ ls) (parts_more (n + 1) xs p ∙ ap (λ (i : ℕ). parts_lines (n + 1) xs ++ part_lines i p) k)
    ∙ sym (append_assoc (part_lines n x) (parts_lines (n + 1) xs) (part_lines (n + length (x ∷ xs)) p))

pub segments_next : (ds : List Dirs) (i : ℕ) (d : Dirs) (before old new : List ℕ) → i < length ds → d ≡ get_or ds i d
    → old ≡ before ++ lines_text (segment_lines 0 (take i ds)) → new ≡ old ++ lines_text (segment_line i A d.a ∷ segment_line i B d.b ∷ [])
    → new ≡ before ++ lines_text (segment_lines 0 (take (i + 1) ds))
segments_next ds i d before old new lt is so_far added =
    let len : 0 + length (take i ds) ≡ i = omega (arith, length-take-le i ds (omega arith)) in
    let more : take (i + 1) ds ≡ take i ds ++ d ∷ [] = take_more ds i d lt ∙ ap (λ (x : Dirs). take i ds ++ x ∷ []) (sym is) in
    let both : List Line = segment_line i A d.a ∷ segment_line i B d.b ∷ [] in
    let lines : segment_lines 0 (take (i + 1) ds) ≡ segment_lines 0 (take i ds) ++ both =
    ap (segment_lines 0) more ∙ segments_more 0 (take i ds) d ∙ ap (λ (n : ℕ). segment_lines 0 (take i ds) ++ segment_line n A d.a ∷ segment_line n B d.b ∷ []) len in
    added ∙ ap (λ (t : List ℕ). t ++ lines_text both) so_far ∙ append_assoc before (lines_text (segment_lines 0 (take i ds))) (lines_text both)
    ∙ ap (λ (t : List ℕ). before ++ t) (sym (lines_more (segment_lines 0 (take i ds)) both) ∙ ap lines_text (sym lines))

pub parts_next : (first : ℕ) (us : List UnitPart) (i : ℕ) (u : UnitPart) (before old new : List ℕ) → i < length us → u ≡ get_or us i u
    → old ≡ before ++ lines_text (parts_lines first (map part_of (take i us))) → new ≡ old ++ lines_text (part_lines (first + i) (part_of u))
    → new ≡ before ++ lines_text (parts_lines first (map part_of (take (i + 1) us)))
parts_next first us i u before old new lt is so_far added =
    let len : length (map part_of (take i us)) ≡ i = length-map (take i us) part_of ∙ length-take-le i us (omega arith) in
    let more : map part_of (take (i + 1) us) ≡ map part_of (take i us) ++ part_of u ∷ [] = map_more part_of us i u lt ∙ ap (λ (x : UnitPart). map part_of (take i us) ++ part_of x ∷ []) (sym is) in
    let lines : parts_lines first (map part_of (take (i + 1) us)) ≡ parts_lines first (map part_of (take i us)) ++ part_lines (first + i) (part_of u) =
    ap (parts_lines first) more ∙ parts_more first (map part_of (take i us)) (part_of u) ∙ ap (λ (n : ℕ). parts_lines first (map part_of (take i us)) ++ part_lines (first + n) (part_of u)) len in
    added ∙ ap (λ (t : List ℕ). t ++ lines_text (part_lines (first + i) (part_of u))) so_far ∙ append_assoc before (lines_text (parts_lines first (map part_of (take i us)))) (lines_text (part_lines (first + i) (part_of u)))
    ∙ ap (λ (t : List ℕ). before ++ t) (sym (lines_more (parts_lines first (map part_of (take i us))) (part_lines (first + i) (part_of u))) ∙ ap lines_text (sym lines))
