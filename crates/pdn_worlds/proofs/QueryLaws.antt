-- What a site sees of a whole query is the same in two worlds.
use Rattle.std.proofs.Common.{◌≡◌, ℕ, ◌<◌, true, List, [], ◌∷◌, ◌++◌, length, map, refl, sym, ap, ap₂, ◌∙◌, subst, arith, Option, Some, None}
use Rattle.std.specs.Prelude.{nat_lt}
use Rattle.std.specs.List.{AllByRecursion, flat_map, range_with_len}
use Rattle.std.proofs.lemmas.Bool.{and_from, lt-ltb}
use Rattle.std.proofs.lemmas.List.Elements.{All-filter, filter_passes, recursion_from_All}
use Rattle.pdn_base.specs.declared.site.Site.{Site}
use Rattle.pdn_base.specs.declared.site.Site.TheVariants.{A, B}
use Rattle.pdn_base.specs.Operators.{Rows}
use Rattle.pdn_schema.specs.Models.{SchemaModel}
use Rattle.pdn_tree.specs.declared.node.Node.{Node}
use Rattle.pdn_circuit.specs.Gates.{Net, InputWords, InOrder, output_words}
use Rattle.pdn_gmw.specs.Pairs.{Run}
use Rattle.pdn_shift.specs.Changes.{shift}
use Rattle.pdn_site.specs.declared.unit.UnitKind.{UnitKind}
use Rattle.pdn_site.specs.declared.unit.UnitKind.TheVariants.{Plain, Secure, Root}
use Rattle.pdn_site.specs.Models.{UnitModel}
use Rattle.pdn_site.specs.SiteRows.{Slice, root_words}
use Rattle.pdn_site.specs.NetMeaning.{slices_of}
use Rattle.pdn_site.specs.Engines.{segment_number, value_of, secure_words}
use Rattle.pdn_agree.specs.Agreement.{own_tables}
use Rattle.pdn_agree.specs.EqualShapes.{SameShapes, ShapesLaw}
use Rattle.pdn_view.specs.Views.{Part}
use Rattle.pdn_broker.specs.declared.answered.Dealt.{Dealt}
use Rattle.pdn_broker.specs.Runs.{Both, Shared, Tape, section_at, world, run_on}
use Rattle.pdn_broker.specs.Answering.{nothing_given, root_own}
use Rattle.pdn_broker.specs.Units.{net_or, CircuitStands, UnitsTell, is_dealt, is_secure, secure_numbers}
use Rattle.pdn_broker.specs.Prepared.{PreparedModel, engine_at, prepared_of}
use Rattle.pdn_broker.specs.Running.{unit_at, root_number, engines_own, secure_run, secure_runs, outputs_of, root_run}
use Rattle.pdn_broker.specs.Views.{half_of, part_by, site_part, site_view}
use Rattle.pdn_broker.proofs.RunLaws.{dealt_shared, shared_nothing, shared_append}
use Rattle.pdn_broker.proofs.UnitLaws.{compiled_tell}
use Rattle.pdn_broker.proofs.PreparedLaws.{secure_kind}
use Rattle.pdn_worlds.specs.PlainWords.{net_at, inputs_of, secure_plain, root_plain, plain_by, plain_at}
use Rattle.pdn_worlds.specs.TapeChange.{has_section, shift_tape}
use Rattle.pdn_worlds.specs.TwoWorlds.{TranscriptLaw, WayBackLaw, OthersLaw, KeepsOthers}
use Rattle.pdn_worlds.proofs.RunPairs.{of_site, RunsAlike, runs_alike, outputs_by, covers_at, section_changed}
use Rattle.pdn_worlds.proofs.Forms.{InForm, in_form}
use Rattle.pdn_worlds.proofs.TapeLaws.{changed_is_read, same_words, kept, back}
use Rattle.pdn_worlds.proofs.ViewLaws.{map_where, range_below}

-- ---- one world: what the root is given in plain
module _ (p : PreparedModel) (tape : Tape) (ticket : ℕ) where
  pub one_shared : (u : ℕ) → Shared (secure_run p tape ticket u).a.outputs (secure_run p tape ticket u).b.outputs (output_words (secure_plain p u) (net_at p u))
  unfolding secure_run
  one_shared u = dealt_shared (net_at p u) tape (record { ticket = ticket; unit = u }) (engines_own p.a p.b (unit_at p u)) nothing_given

  runs_shared : (us : List ℕ) → Shared (outputs_of (map (secure_run p tape ticket) us)).a (outputs_of (map (secure_run p tape ticket) us)).b (flat_map (λ u. output_words (secure_plain p u) (net_at p u)) us)
  runs_shared [] = shared_nothing
  runs_shared (u ∷ us) = shared_append (one_shared u) (runs_shared us)

  pub given_shared : Shared (outputs_of (secure_runs p tape ticket)).a (outputs_of (secure_runs p tape ticket)).b (root_plain p).given
  given_shared = runs_shared (secure_numbers p.units)

  -- so the root runs on these plain words
  pub root_runs_on : (world p.own (outputs_of (secure_runs p tape ticket))).inputs ≡ root_plain p
  root_runs_on = ap (λ (given : List ℕ). inputs_of p.own given) given_shared.opens

-- ---- what a site puts in itself
own_secure : (site : Site) (schema : SchemaModel) (root : Node) (a b c d : List Rows) (unit : UnitModel) → own_tables site (record { a = c; b = d }) ≡ own_tables site (record { a = a; b = b })
    → of_site site (engines_own (engine_at A schema root c) (engine_at B schema root d) unit) ≡ of_site site (engines_own (engine_at A schema root a) (engine_at B schema root b) unit)
own_secure A schema root a b c d unit e = ap (λ (tables : List Rows). secure_words (engine_at A schema root tables) (segment_number unit) (value_of unit)) e
own_secure B schema root a b c d unit e = ap (λ (tables : List Rows). secure_words (engine_at B schema root tables) (segment_number unit) (value_of unit)) e

own_root : (site : Site) (schema : SchemaModel) (root : Node) (a b c d : List Rows) → own_tables site (record { a = c; b = d }) ≡ own_tables site (record { a = a; b = b })
    → slices_of schema c d root ≡ slices_of schema a b root → of_site site (root_own schema c d root) ≡ of_site site (root_own schema a b root)
own_root A schema root a b c d e s = ap₂ (λ (tables : List Rows) (slices : List (List Slice)). root_words A schema tables slices root) e s
own_root B schema root a b c d e s = ap₂ (λ (tables : List Rows) (slices : List (List Slice)). root_words B schema tables slices root) e s

order_of : (circuit : Option Net) → CircuitStands circuit → InOrder (net_or circuit).gates
order_of None stands = record { at = λ k other l. absurd (omega (arith, l)) }
order_of (Some net) stands = stands

-- outputs of runs that are alike
outputs_along : (give : Run → List ℕ) (first second : ℕ → Run) (us : List ℕ) → AllByRecursion (λ u. give (second u) ≡ give (first u)) us → flat_map give (map second us) ≡ flat_map give (map first us)
outputs_along give first second [] all = refl
outputs_along give first second (u ∷ us) all = ap₂ (λ (xs ys : List ℕ). xs ++ ys) all.0 (outputs_along give first second us all.1)

-- ---- two worlds of one schema, one tree and the same units
module _ (law : ShapesLaw) (site : Site) (schema : SchemaModel) (root : Node) (a b c d : List Rows) (units : List UnitModel) (form : InForm site schema root a b c d units) (tape : Tape) (ticket : ℕ) where
  abbrev p : PreparedModel
  p = prepared_of schema root a b units

  abbrev q : PreparedModel
  q = prepared_of schema root c d units

  abbrev next : Tape
  next = shift_tape site p q ticket tape

  abbrev at : ℕ → Dealt
  at u = record { ticket = ticket; unit = u }

  shapes : SameShapes schema root (record { a = a; b = b }) (record { a = c; b = d })
  shapes = law site schema root (record { a = a; b = b }) (record { a = c; b = d }) form.first.sound form.first.numbers form.agree

  in_order : (u : ℕ) → u < length units → InOrder (net_at p u).gates
  in_order u h = order_of (unit_at p u).circuit (form.first.stand u h)

  -- a unit's section in the second world
  section_is : (u : ℕ) (kind : UnitKind) → u < length units → (unit_at p u).kind ≡ kind → is_dealt kind ≡ true
      → section_at next (at u) (net_at p u) ≡ shift site (net_at p u) (plain_by p u kind) (plain_by q u kind) (section_at tape (at u) (net_at p u))
  section_is u kind h k dealt =
      let has : has_section p u ≡ true = and_from (nat_lt u (length units)) (is_dealt (unit_at p u).kind) (lt-ltb u (length units) h) (ap is_dealt k ∙ dealt) in
      section_changed site (net_at p u) (plain_at p u) (plain_at q u) tape next (at u) (changed_is_read site p q tape ticket u has)
      ∙ ap (λ (one : UnitKind). shift site (net_at p u) (plain_by p u one) (plain_by q u one) (section_at tape (at u) (net_at p u))) k

  -- ---- the secure units
  secure_alike : (u : ℕ) → u < length units → (unit_at p u).kind ≡ Secure → RunsAlike site (secure_run p tape ticket u) (secure_run q next ticket u)
  unfolding secure_run
  secure_alike u h k =
      let net : Net = net_at p u in
      let own : Both = engines_own p.a p.b (unit_at p u) in
      let other : Both = engines_own q.a q.b (unit_at p u) in
      subst (λ t. RunsAlike site (run_on net (section_at tape (at u) net) own nothing_given) (run_on net t other nothing_given)) (sym (section_is u Secure h k refl))
      (runs_alike site net (section_at tape (at u) net) own nothing_given other nothing_given (in_order u h) (covers_at tape (at u) net) refl refl
      (own_secure site schema root a b c d (unit_at p u) form.agree.own) refl)

  abbrev IsSecureAt : ℕ → Type 0
  IsSecureAt u = (u < length units) × (is_secure (unit_at p u).kind ≡ true)

  are_secure : AllByRecursion IsSecureAt (secure_numbers units)
  are_secure =
      let below = All-filter (λ u. is_secure (unit_at p u).kind) (λ u. u < length units) (range_with_len 0 (length units)) (range_below (length units)) in
      let pass = filter_passes (λ u. is_secure (unit_at p u).kind) (range_with_len 0 (length units)) in
      recursion_from_All IsSecureAt (secure_numbers units) (λ k other l. (below k other l, pass k other l))

  outputs_alike : (us : List ℕ) → AllByRecursion IsSecureAt us → AllByRecursion (λ u. (half_of site (secure_run q next ticket u)).outputs ≡ (half_of site (secure_run p tape ticket u)).outputs) us
  outputs_alike [] all = tt
  outputs_alike (u ∷ us) all = ((secure_alike u all.0.0 (secure_kind (unit_at p u).kind all.0.1)).outputs, outputs_alike us all.1)

  -- the site's own shares of what the root is given
  given_alike : of_site site (outputs_of (secure_runs q next ticket)) ≡ of_site site (outputs_of (secure_runs p tape ticket))
  given_alike =
      outputs_by site (secure_runs q next ticket)
      ∙ outputs_along (λ (run : Run). (half_of site run).outputs) (secure_run p tape ticket) (secure_run q next ticket) (secure_numbers units) (outputs_alike (secure_numbers units) are_secure)
      ∙ sym (outputs_by site (secure_runs p tape ticket))

  -- ---- the root
  tells : UnitsTell schema a b root units
  tells = compiled_tell schema a b root form.first.sound form.first.numbers units form.first.units form.first.stand

  root_within : root_number p < length units
  root_within = omega (arith, tells.some)

  root_kind : (unit_at p (root_number p)).kind ≡ Root
  root_kind = ap (λ (unit : UnitModel). unit.kind) tells.last

  root_section : section_at next (at (root_number p)) (net_at p (root_number p))
      ≡ shift site (net_at p (root_number p)) (world p.own (outputs_of (secure_runs p tape ticket))).inputs (world q.own (outputs_of (secure_runs q next ticket))).inputs (section_at tape (at (root_number p)) (net_at p (root_number p)))
  root_section =
      let net : Net = net_at p (root_number p) in
      section_is (root_number p) Root root_within root_kind refl
      ∙ sym (ap₂ (λ (first second : InputWords). shift site net first second (section_at tape (at (root_number p)) net)) (root_runs_on p tape ticket) (root_runs_on q next ticket))

  root_alike : RunsAlike site (root_run p tape ticket) (root_run q next ticket)
  unfolding root_run
  root_alike =
      let net : Net = net_at p (root_number p) in
      let t = section_at tape (at (root_number p)) net in
      let given : Both = outputs_of (secure_runs p tape ticket) in
      let more : Both = outputs_of (secure_runs q next ticket) in
      subst (λ s. RunsAlike site (run_on net t p.own given) (run_on net s q.own more)) (sym root_section)
      (runs_alike site net t p.own given q.own more (in_order (root_number p) root_within) (covers_at tape (at (root_number p)) net) (given_shared p tape ticket).same (given_shared q next ticket).same
      (own_root site schema root a b c d form.agree.own shapes.slices) given_alike)

  -- ---- the view
  part_alike : (u : ℕ) (kind : UnitKind) → u < length units → (unit_at p u).kind ≡ kind → part_by site q next ticket u kind ≡ part_by site p tape ticket u kind
  part_alike u (Plain one) h k = refl
  part_alike u Secure h k = ap (λ words. record (part_by site p tape ticket u Secure) { words = words }) (secure_alike u h k).view
  part_alike u Root h k = ap (λ words. record (part_by site p tape ticket u Root) { words = words }) root_alike.view

  pub view_alike : site_view site q next ticket ≡ site_view site p tape ticket
  view_alike =
      let parts : (site_view site q next ticket).units ≡ (site_view site p tape ticket).units
      = map_where (λ u. u < length units) (site_part site q next ticket) (site_part site p tape ticket) (range_with_len 0 (length units))
      (recursion_from_All (λ u. u < length units) (range_with_len 0 (length units)) (range_below (length units))) (λ u h. part_alike u (unit_at p u).kind h refl) in
      ap₂ (λ dirs (all : List Part). record (site_view site p tape ticket) { dirs = dirs; units = all }) shapes.dirs parts

-- ---- the laws
pub transcript_law : ShapesLaw → TranscriptLaw
transcript_law law site p q w tape ticket =
    in_form law (λ m n. site_view site n (shift_tape site m n ticket tape) ticket ≡ site_view site m tape ticket) site p q w
    (λ schema root a b c d units form. view_alike law site schema root a b c d units form tape ticket)

pub way_back_law : ShapesLaw → WayBackLaw
way_back_law law site p q w tape ticket one u place =
    in_form law (λ m n. shift_tape site n m ticket (shift_tape site m n ticket tape) one u place ≡ tape one u place) site p q w
    (λ schema root a b c d units form. back site schema root a b c d units tape ticket one u place)

pub others_law : ShapesLaw → OthersLaw
others_law law site p q w tape ticket one u place =
    in_form law (λ m n. KeepsOthers site m n tape ticket one u place) site p q w
    (λ schema root a b c d units form. record {
      same = same_words site schema root a b c d units tape ticket one u place;
      kept = kept site schema root a b c d units tape ticket one u place;
    })
