-- A segment in the root: its units' lists, one after the other.
use Rattle.std.proofs.Common.{◌≡◌, ℕ, zero, suc, ◌+◌, ◌<◌, cond, List, [], ◌∷◌, ◌++◌, length, get_or, map, replicate, refl, sym, ap, ap₂, ◌∙◌, subst, arith, length-append}
use Rattle.std.specs.List.{AllByRecursion, flat_map}
use Rattle.std.proofs.lemmas.List.{length-replicate}
use Rattle.std.proofs.lemmas.List.Sums.{sum_by-cons}
use Rattle.pdn_base.specs.declared.marks.Kind.{Kind}
use Rattle.pdn_base.specs.declared.site.Site.{Site}
use Rattle.pdn_base.specs.declared.site.Site.TheVariants.{A, B}
use Rattle.pdn_base.specs.declared.value.Value.{Value}
use Rattle.pdn_base.specs.Values.{same_row}
use Rattle.pdn_base.specs.Operators.{Rows, SameRows, listed}
use Rattle.pdn_base.proofs.BagLaws.{SameBag-append, SameBag-trans, SameBag-sym, SameBag-refl}
use Rattle.pdn_base.proofs.RowLaws.{same_row-tests}
use Rattle.pdn_schema.specs.Models.{SchemaModel}
use Rattle.pdn_schema.specs.Rows.{union}
use Rattle.pdn_tree.specs.declared.node.Node.{Node}
use Rattle.pdn_tree.specs.Meaning.{mean}
use Rattle.pdn_tree.specs.Shapes.{kinds}
use Rattle.pdn_circuit.specs.Gates.{InputWords}
use Rattle.pdn_circuit.specs.Blocks.{gives}
use Rattle.pdn_circuit.specs.Plain.{Yields}
use Rattle.pdn_circuit.proofs.PlainLaws.{yields-gives}
use Rattle.pdn_obl_rows.specs.Lists.{PaddedList, IsShaped, widths, words_for, plane_at, valid_rows}
use Rattle.pdn_obl_rows.specs.Encoding.{RowIsOf, RowsAreOf, list_from, Stand}
use Rattle.pdn_obl_rows.specs.Operators.{list_at, AllOf, kinds_of, length_of}
use Rattle.pdn_obl_rows.proofs.AppendLaws.{append_means}
use Rattle.pdn_obl_rows.proofs.EncodingLaws.{length-encoded, stand_first, stand_rest}
use Rattle.pdn_level.specs.Cutting.{mean_at, slice_column}
use Rattle.pdn_site.specs.declared.unit.UnitKind.{UnitKind}
use Rattle.pdn_site.specs.declared.unit.UnitKind.TheVariants.{Plain, Secure, Root}
use Rattle.pdn_site.specs.Laying.{Taken, each_laid, list_words, with_words, with_given}
use Rattle.pdn_site.specs.Circuits.{Part, part_by, part_list, no_rows, joined_parts, past_segment, segment_list}
use Rattle.pdn_site.specs.Compiling.{sum_lens}
use Rattle.pdn_site.specs.SiteRows.{Slice, slice_words, is_of, entered, plain_rows}
use Rattle.pdn_site.specs.Meaning.{Holds}
use Rattle.pdn_site.specs.RootMeaning.{part_of, parts_of_slices, GivesRows, PlainMeans, UnitGives, SegmentGives, given_by, segment_given}
use Rattle.pdn_site.proofs.RowLists.{all_append, of_all, to_all, listed_are, listed_few, listed_same}
use Rattle.pdn_site.proofs.LayingLaws.{Read, IsGiven, laid-then, laid-making, input_read, given_gates, from_shaped}
use Rattle.pdn_site.proofs.LeafLaws.{appended}
use Rattle.pdn_site.proofs.OutputLaws.{output_means, length-words_out}

-- so many words of A and B and given words were taken
abbrev pub taking : ℕ → ℕ → ℕ → Taken → Taken
taking a b given taken = record { a = taken.a + a; b = taken.b + b; given = taken.given + given; segments = taken.segments }

no_more : (taken : Taken) → taken ≡ taking 0 0 0 taken
no_more taken = by (taken.a) (taken.b) (taken.given)
  where
    by : (a b given : ℕ) → ◌≡◌ {A = Taken} (record { a = a; b = b; given = given; segments = taken.segments }) (record { a = a + 0; b = b + 0; given = given + 0; segments = taken.segments })
    by a b given = rw (let e : a + 0 ≡ a = omega arith in e, let e : b + 0 ≡ b = omega arith in e, let e : given + 0 ≡ given = omega arith in e) refl

-- ---- one unit
-- a unit's list, and the words that it took
pub record TakesUnit (words : List ℕ) (columns : List Kind) (count : ℕ) (meant : Rows) (a b given : List ℕ) (taken : Taken) (z : PaddedList × Taken) : Type 0 where
  pub holds : Holds words z.0 columns count meant
  pub after : z.1 ≡ taking (length a) (length b) (length given) taken

taken_a : (taken : Taken) (n : ℕ) (ws : List ℕ) → n ≡ length ws → with_words A n taken ≡ taking (length ws) 0 0 taken
taken_a taken n ws e = ap (λ k. with_words A k taken) e ∙ by (taken.a + length ws) taken.b taken.given
  where
    by : (a b given : ℕ) → ◌≡◌ {A = Taken} (record { a = a; b = b; given = given; segments = taken.segments }) (record { a = a; b = b + 0; given = given + 0; segments = taken.segments })
    by a b given = rw (let e : b + 0 ≡ b = omega arith in e, let e : given + 0 ≡ given = omega arith in e) refl

taken_b : (taken : Taken) (n : ℕ) (ws : List ℕ) → n ≡ length ws → with_words B n taken ≡ taking 0 (length ws) 0 taken
taken_b taken n ws e = ap (λ k. with_words B k taken) e ∙ by taken.a (taken.b + length ws) taken.given
  where
    by : (a b given : ℕ) → ◌≡◌ {A = Taken} (record { a = a; b = b; given = given; segments = taken.segments }) (record { a = a + 0; b = b; given = given + 0; segments = taken.segments })
    by a b given = rw (let e : a + 0 ≡ a = omega arith in e, let e : given + 0 ≡ given = omega arith in e) refl

taken_given : (taken : Taken) (n : ℕ) (ws : List ℕ) → n ≡ length ws → with_given n taken ≡ taking 0 0 (length ws) taken
taken_given taken n ws e = ap (λ k. with_given k taken) e ∙ by taken.a taken.b (taken.given + length ws)
  where
    by : (a b given : ℕ) → ◌≡◌ {A = Taken} (record { a = a; b = b; given = given; segments = taken.segments }) (record { a = a + 0; b = b + 0; given = given; segments = taken.segments })
    by a b given = rw (let e : a + 0 ≡ a = omega arith in e, let e : b + 0 ≡ b = omega arith in e) refl

module _ (inputs : InputWords) (words : List ℕ) where
  -- rows that a site entered
  entered_holds : (list : PaddedList) (columns : List Kind) (count : ℕ) (rows meant : Rows) → Read words list columns count (listed [] rows) → PlainMeans rows meant columns count → Holds words list columns count meant
  entered_holds list columns count rows meant read is = record {
    shaped = read.shaped;
    kinds = read.kinds;
    len = read.len;
    rows = subst (λ (xs : Rows). SameRows xs meant) (sym read.rows) (SameBag-trans (listed_same rows) is.same);
    are = subst (λ (xs : Rows). RowsAreOf columns xs) (sym read.rows) (listed_are columns rows is.of);
  }

  -- a secure unit's output words
  given_holds : (list : PaddedList) (columns : List Kind) (count : ℕ) (given : List ℕ) (meant : Rows) → IsGiven words columns count given list → GivesRows given columns count meant → Holds words list columns count meant
  given_holds list columns count given meant is gives =
      let held = gives.holds in
      let own : PaddedList = gives.list in
      let same : list ≡ list_from is.at own.kinds own.len = is.list ∙ ap₂ (λ (ks : List Kind) n. list_from is.at ks n) (sym held.kinds) (sym held.len) in
      let rows : valid_rows words list ≡ valid_rows gives.words own
      = ap (valid_rows words) same ∙ output_means gives.words own held.shaped words is.at (subst (λ (ws : List ℕ). Stand words is.at ws) gives.output is.stand) in
      record {
        shaped = subst (λ (l : PaddedList). IsShaped l) (sym is.list) (from_shaped is.at columns count);
        kinds = ap (λ (l : PaddedList). l.kinds) is.list;
        len = ap (λ (l : PaddedList). l.len) is.list;
        rows = subst (λ (xs : Rows). SameRows xs meant) (sym rows) held.rows;
        are = subst (λ (xs : Rows). RowsAreOf columns xs) (sym rows) held.are;
      }

  given_length : (given : List ℕ) (columns : List Kind) (count : ℕ) (meant : Rows) → GivesRows given columns count meant → length given ≡ list_words columns count
  given_length given columns count meant gives =
      let held = gives.holds in
      ap length gives.output ∙ length-words_out gives.words gives.list held.shaped ∙ ap₂ (λ (ks : List Kind) n. list_words ks n) held.kinds held.len

  module _ (schema : SchemaModel) (a b : List Rows) (top : Node) (output : Value → List ℕ) where
    abbrev columns : List Kind
    columns = kinds schema top

    abbrev meant_at : Value → Rows
    meant_at v = mean_at schema (union a b) v top (slice_column schema top)

    -- a site's words of a unit of this kind
    abbrev own_of : Site → List Rows → Value → ℕ → UnitKind → List ℕ
    own_of site tables v len kind = cond (is_of site kind) (entered (plain_rows schema tables v top) columns len) []

    unit_taken : (kind : UnitKind) (v : Value) (len : ℕ) (taken : Taken) (z : PaddedList × Taken) → UnitGives schema a b top output v len kind → Stand inputs.a taken.a (own_of A a v len kind) → Stand inputs.b taken.b (own_of B b v len kind)
        → Stand inputs.given taken.given (given_by output v kind) → Yields inputs words (part_by kind columns len taken) z → TakesUnit words columns len (meant_at v) (own_of A a v len kind) (own_of B b v len kind) (given_by output v kind) taken z
    unit_taken (Plain A) v len taken z is sa sb sg y =
        let rows : Rows = plain_rows schema a v top in
        let read = input_read A columns len taken (listed [] rows) (listed_are columns rows is.of) (listed_few rows len is.few) sa y in
        record { holds = entered_holds z.0 columns len rows (meant_at v) read.0 is; after = read.1 ∙ taken_a taken (list_words columns len) (entered rows columns len) (sym (length-encoded (listed [] rows) columns len)) }
    unit_taken (Plain B) v len taken z is sa sb sg y =
        let rows : Rows = plain_rows schema b v top in
        let read = input_read B columns len taken (listed [] rows) (listed_are columns rows is.of) (listed_few rows len is.few) sb y in
        record { holds = entered_holds z.0 columns len rows (meant_at v) read.0 is; after = read.1 ∙ taken_b taken (list_words columns len) (entered rows columns len) (sym (length-encoded (listed [] rows) columns len)) }
    unit_taken Secure v len taken z is sa sb sg y =
        let many : length (output v) ≡ list_words columns len = given_length (output v) columns len (meant_at v) is in
        let read = given_gates columns len taken (output v) many sg y in
        record { holds = given_holds z.0 columns len (output v) (meant_at v) read.0 is; after = read.1 ∙ taken_given taken (list_words columns len) (output v) (sym many) }
    unit_taken Root v len taken z is sa sb sg y = absurd is

-- ---- the units of a segment
taking_more : (a b given a' b' given' : ℕ) (taken : Taken) → taking a' b' given' (taking a b given taken) ≡ taking (a + a') (b + b') (given + given') taken
taking_more a b given a' b' given' taken = by (taken.a + a + a') (taken.a + (a + a')) (taken.b + b + b') (taken.b + (b + b')) (taken.given + given + given') (taken.given + (given + given')) (omega arith) (omega arith) (omega arith)
  where
    by : (i i' j j' k k' : ℕ) → i ≡ i' → j ≡ j' → k ≡ k' → ◌≡◌ {A = Taken} (record { a = i; b = j; given = k; segments = taken.segments }) (record { a = i'; b = j'; given = k'; segments = taken.segments })
    by i i' j j' k k' e f g = rw (e, f, g) refl

pub taking_both : (xa ya xb yb xg yg : List ℕ) (taken : Taken) → taking (length ya) (length yb) (length yg) (taking (length xa) (length xb) (length xg) taken) ≡ taking (length (xa ++ ya)) (length (xb ++ yb)) (length (xg ++ yg)) taken
taking_both xa ya xb yb xg yg taken =
    taking_more (length xa) (length xb) (length xg) (length ya) (length yb) (length yg) taken
    ∙ rw (length-append xa ya, length-append xb yb, length-append xg yg) refl

abbrev IsPart : List Kind → PaddedList → Type 0
IsPart columns l = (l.kinds ≡ columns) × IsShaped l

parts_of_all : (columns : List Kind) (lists : List PaddedList) → AllByRecursion (IsPart columns) lists → AllOf columns lists
parts_of_all columns lists h = record { kinds = λ m l. (at lists h m l).0; shaped = λ m l. (at lists h m l).1 }
  where
    at : (lists : List PaddedList) → AllByRecursion (IsPart columns) lists → (m : ℕ) → m < length lists → IsPart columns (list_at lists m)
    at [] h m l = absurd (omega arith)
    at (x ∷ xs) h zero l = h.0
    at (x ∷ xs) h (suc m) l = at xs h.1 m (omega arith)

-- the lists of units, one after the other
pub record HoldParts (words : List ℕ) (columns : List Kind) (count : ℕ) (meant : Rows) (lists : List PaddedList) : Type 0 where
  pub rows : SameRows (flat_map (valid_rows words) lists) meant
  pub are : AllByRecursion (RowIsOf columns) (flat_map (valid_rows words) lists)
  pub parts : AllByRecursion (IsPart columns) lists
  pub len : length_of lists ≡ count

no_planes : (n p : ℕ) → length (plane_at (replicate n []) p) ≡ 0
no_planes zero p = refl
no_planes (suc n) zero = refl
no_planes (suc n) (suc p) = no_planes n p

no_words : words_for 0 ≡ 0
unfolding words_for
no_words = refl

joined_hold : (inputs : InputWords) (words : List ℕ) (columns : List Kind) (count : ℕ) (meant : Rows) (lists : List PaddedList) (out : PaddedList) → HoldParts words columns count meant lists → Yields inputs words (joined_parts columns lists) out → Holds words out columns count meant
joined_hold inputs words columns count meant [] out h y =
    let is : out ≡ no_rows columns = yields-gives _ y in
    subst (λ (o : PaddedList). Holds words o columns count meant) (sym is) (record {
      shaped = record { valid = sym no_words; planes = length-replicate (widths columns) []; words = λ p l. no_planes (widths columns) p ∙ sym no_words };
      kinds = refl;
      len = h.len;
      rows = h.rows;
      are = of_all columns [] tt;
    })
joined_hold inputs words columns count meant (l ∷ ls) out h y =
    let lists : List PaddedList = l ∷ ls in
    let shape = appended lists y in
    let all : AllOf (kinds_of lists) lists = subst (λ (ks : List Kind). AllOf ks lists) (sym h.parts.0.0) (parts_of_all columns lists h.parts) in
    let is : valid_rows words out ≡ flat_map (valid_rows words) lists = append_means inputs words lists out all y in
    record {
      shaped = shape.shaped;
      kinds = shape.kinds ∙ h.parts.0.0;
      len = shape.len ∙ h.len;
      rows = subst (λ (xs : Rows). SameRows xs meant) (sym is) h.rows;
      are = subst (λ (xs : Rows). RowsAreOf columns xs) (sym is) (of_all columns (flat_map (valid_rows words) lists) h.are);
    }

module _ (inputs : InputWords) (words : List ℕ) (schema : SchemaModel) (a b : List Rows) (top : Node) (output : Value → List ℕ) where
  abbrev meant_by : Slice → Rows
  meant_by s = mean_at schema (union a b) s.value top (slice_column schema top)

  abbrev given_of : Slice → List ℕ
  given_of s = given_by output s.value s.kind

  parts_taken : (slices : List Slice) (taken : Taken) (z : List PaddedList × Taken) → AllByRecursion (λ (s : Slice). UnitGives schema a b top output s.value s.len s.kind) slices
      → Stand inputs.a taken.a (flat_map (slice_words A schema a top) slices) → Stand inputs.b taken.b (flat_map (slice_words B schema b top) slices) → Stand inputs.given taken.given (flat_map given_of slices)
      → Yields inputs words (each_laid (part_list (kinds schema top)) (map part_of slices) taken) z
      → HoldParts words (kinds schema top) (sum_lens (map part_of slices)) (flat_map meant_by slices) z.0
      × (z.1 ≡ taking (length (flat_map (slice_words A schema a top) slices)) (length (flat_map (slice_words B schema b top) slices)) (length (flat_map given_of slices)) taken)
  parts_taken [] taken z h sa sb sg y =
      let last = laid-making (gives []) taken y in
      let is : z.0 ≡ [] = yields-gives _ last.0 in (
        subst (λ (ls : List PaddedList). HoldParts words (kinds schema top) 0 [] ls) (sym is) (record { rows = SameBag-refl same_row []; are = tt; parts = tt; len = refl }),
        last.1 ∙ no_more taken,
      )
  parts_taken (s ∷ ss) taken z h sa sb sg y =
      let own_a : List ℕ = slice_words A schema a top s in
      let own_b : List ℕ = slice_words B schema b top s in
      let own_g : List ℕ = given_of s in
      let more_a : List ℕ = flat_map (slice_words A schema a top) ss in
      let more_b : List ℕ = flat_map (slice_words B schema b top) ss in
      let more_g : List ℕ = flat_map given_of ss in
      let first = laid-then (part_list (kinds schema top) (part_of s)) _ taken y in
      let one = unit_taken inputs words schema a b top output s.kind s.value s.len taken (first.x, first.between) h.0 (stand_first inputs.a taken.a own_a more_a sa) (stand_first inputs.b taken.b own_b more_b sb) (stand_first inputs.given taken.given own_g more_g sg) first.first in
      let held : Holds words first.x (kinds schema top) s.len (meant_by s) = one.holds in
      let second = laid-then (each_laid (part_list (kinds schema top)) (map part_of ss)) _ first.between first.rest in
      let rest = parts_taken ss first.between (second.x, second.between) h.1
      (subst (λ (n : ℕ). Stand inputs.a n more_a) (sym (ap (λ (t : Taken). t.a) one.after)) (stand_rest inputs.a taken.a own_a more_a sa))
      (subst (λ (n : ℕ). Stand inputs.b n more_b) (sym (ap (λ (t : Taken). t.b) one.after)) (stand_rest inputs.b taken.b own_b more_b sb))
      (subst (λ (n : ℕ). Stand inputs.given n more_g) (sym (ap (λ (t : Taken). t.given) one.after)) (stand_rest inputs.given taken.given own_g more_g sg)) second.first in
      let others : HoldParts words (kinds schema top) (sum_lens (map part_of ss)) (flat_map meant_by ss) second.x = rest.0 in
      let last = laid-making (gives (first.x ∷ second.x)) second.between second.rest in
      let is : z.0 ≡ first.x ∷ second.x = yields-gives _ last.0 in (
        subst (λ (ls : List PaddedList). HoldParts words (kinds schema top) (sum_lens (part_of s ∷ map part_of ss)) (meant_by s ++ flat_map meant_by ss) ls) (sym is) (record {
          rows = SameBag-append same_row-tests held.rows others.rows;
          are = all_append (RowIsOf (kinds schema top)) (valid_rows words first.x) (flat_map (valid_rows words) second.x) (to_all (kinds schema top) (valid_rows words first.x) held.are) others.are;
          parts = ((held.kinds, held.shaped), others.parts);
          len = sum_by-cons (λ (k : PaddedList). k.len) first.x second.x ∙ ap₂ (λ m n. m + n) held.len others.len ∙ sym (sum_by-cons (λ (p : Part). p.len) (part_of s) (map part_of ss));
        }),
        last.1 ∙ rest.1 ∙ ap (taking (length more_a) (length more_b) (length more_g)) one.after ∙ taking_both own_a more_a own_b more_b own_g more_g taken,
      )

-- the units of segment i as the root reads them
pub parts_at : (slices : List (List Slice)) (i : ℕ) → get_or (parts_of_slices slices) i [] ≡ map part_of (get_or slices i [])
parts_at [] i = refl
parts_at (s ∷ ss) zero = refl
parts_at (s ∷ ss) (suc i) = parts_at ss i

-- the list of a segment
pub segment_taken : (inputs : InputWords) (words : List ℕ) (schema : SchemaModel) (a b : List Rows) (top : Node) (slices : List (List Slice)) (outputs : ℕ → Value → List ℕ) (taken : Taken) (z : PaddedList × Taken)
    → SegmentGives schema a b top (get_or slices taken.segments []) (outputs taken.segments)
    → Stand inputs.a taken.a (flat_map (slice_words A schema a top) (get_or slices taken.segments [])) → Stand inputs.b taken.b (flat_map (slice_words B schema b top) (get_or slices taken.segments []))
    → Stand inputs.given taken.given (segment_given slices outputs taken.segments) → Yields inputs words (segment_list (parts_of_slices slices) (kinds schema top) taken) z
    → Holds words z.0 (kinds schema top) (sum_lens (get_or (parts_of_slices slices) taken.segments [])) (mean (union a b) top)
    × (z.1 ≡ past_segment (taking (length (flat_map (slice_words A schema a top) (get_or slices taken.segments []))) (length (flat_map (slice_words B schema b top) (get_or slices taken.segments []))) (length (segment_given slices outputs taken.segments)) taken))
segment_taken inputs words schema a b top slices outputs taken z is sa sb sg y =
    let i : ℕ = taken.segments in
    let own : List Slice = get_or slices i [] in
    let first = laid-then (each_laid (part_list (kinds schema top)) (get_or (parts_of_slices slices) i [])) _ (past_segment taken) y in
    let parts = parts_taken inputs words schema a b top (outputs i) own (past_segment taken) (first.x, first.between) is.units sa sb sg
    (subst (λ (ps : List Part). Yields inputs words (each_laid (part_list (kinds schema top)) ps (past_segment taken)) (first.x, first.between)) (parts_at slices i) first.first) in
    let last = laid-making (joined_parts (kinds schema top) first.x) first.between first.rest in
    let meant : Rows = flat_map (λ (s : Slice). mean_at schema (union a b) s.value top (slice_column schema top)) own in
    let held : Holds words z.0 (kinds schema top) (sum_lens (map part_of own)) meant = joined_hold inputs words (kinds schema top) (sum_lens (map part_of own)) meant first.x z.0 parts.0 last.0 in (
      record { shaped = held.shaped; kinds = held.kinds; len = held.len ∙ sym (ap sum_lens (parts_at slices i)); rows = SameBag-trans held.rows (SameBag-sym is.sum); are = held.are },
      last.1 ∙ parts.1,
    )
