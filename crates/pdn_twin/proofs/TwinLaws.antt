-- The runs of a query's units in two worlds, the second on the changed tape.
use Rattle.std.proofs.Common.{◌≡◌, ℕ, zero, suc, ◌+◌, ◌-◌, ◌<◌, Bool, true, cond, List, [], ◌∷◌, ◌++◌, length, get_or, map, refl, sym, ap, ap₂, ◌∙◌, subst, arith, append-nil, Result, Ok, Err, IfOk}
use Rattle.std.specs.Prelude.{nat_lt}
use Rattle.std.proofs.lemmas.Bool.{and_from, lt-ltb}
use Rattle.std.proofs.lemmas.List.{map-append}
use Rattle.std.specs.declared.alloc.Global.{Global}
use Rattle.std.specs.declared.vec.Vec.{Vec}
use Rattle.pdn_base.specs.declared.site.Site.{Site}
use Rattle.pdn_circuit.specs.Gates.{Net, InputWords}
use Rattle.pdn_dealer.specs.Sections.{layout_of, section_length}
use Rattle.pdn_dealer.specs.Tapes.{first_words}
use Rattle.pdn_gmw.specs.Pairs.{Run}
use Rattle.pdn_gmw.proofs.Meeting.{length-first_words}
use Rattle.pdn_shift.specs.Changes.{shift_words}
use Rattle.pdn_pool.specs.Results.{EachGives}
use Rattle.pdn_site.specs.declared.unit.UnitKind.{UnitKind}
use Rattle.pdn_site.specs.declared.unit.UnitKind.TheVariants.{Plain, Secure, Root}
use Rattle.pdn_site.specs.Models.{UnitModel}
use Rattle.pdn_site.specs.Engines.{no_unit}
use Rattle.pdn_broker.specs.Runs.{Tape, Takes, run_on, section_at}
use Rattle.pdn_broker.specs.Units.{UnitsTell, net_or, is_secure, is_dealt, numbers_upto, secure_numbers}
use Rattle.pdn_broker.specs.Prepared.{PreparedModel, IsPrepared}
use Rattle.pdn_broker.specs.Running.{unit_at, root_number, root_of, run_at, secure_run, secure_runs, outputs_of, root_run, runs_of}
use Rattle.pdn_broker.proofs.UnitLaws.{compiled_tell}
use Rattle.pdn_broker.proofs.PreparedLaws.{secure_kind, secure_takes, root_fits}
use Rattle.pdn_broker.proofs.UnitPlaces.{before_root, numbers_more, secure_is_dealt}
use Rattle.pdn_worlds.specs.PlainWords.{net_at, secure_plain, root_plain, plain_by, plain_at}
use Rattle.pdn_worlds.specs.TapeChange.{section_length_at, has_section, section_words, changed_words, shift_tape}
use Rattle.pdn_worlds.proofs.TapeLaws.{changed_is_read}
use Rattle.pdn_worlds.proofs.QueryLaws.{root_runs_on}
use Rattle.pdn_twin.specs.declared.starts.Start.{Start}
use Rattle.pdn_twin.specs.declared.starts.Starts.{Starts}
use Rattle.pdn_twin.specs.declared.unit_twin.UnitTwin.{UnitTwin}
use Rattle.pdn_twin.specs.Twins.{ChangeWords, differing, change_at, changes}
use Rattle.pdn_twin.specs.UnitTwins.{plain, changed_section, start_on, twin_on, secure_start, root_start, secure_starts, secure_twin, secure_twins, root_twin}

-- ---- the root is the last unit, and the only one of its kind
tells : (p : PreparedModel) → IsPrepared p → UnitsTell p.a.schema p.a.tables p.b.tables p.a.root p.units
tells p is = compiled_tell p.a.schema p.a.tables p.b.tables p.a.root is.sound is.numbers p.units is.units is.stand

pub root_within : (p : PreparedModel) → IsPrepared p → root_number p < length p.units
root_within p is = omega (arith, (tells p is).some)

root_kind : (p : PreparedModel) → IsPrepared p → (unit_at p (root_number p)).kind ≡ Root
root_kind p is = ap (λ (unit : UnitModel). unit.kind) (tells p is).last

pub root_dealt : (p : PreparedModel) → IsPrepared p → (u : ℕ) → u ≡ root_number p → is_dealt (unit_at p u).kind ≡ true
root_dealt p is u e = ap (λ n. is_dealt (unit_at p n).kind) e ∙ ap is_dealt (root_kind p is)

dealt_as_secure : (k : UnitKind) → (k ≡ Root → ⊥) → is_dealt k ≡ is_secure k
dealt_as_secure (Plain site) h = refl
dealt_as_secure Secure h = refl
dealt_as_secure Root h = absurd (h refl)

dealt_before : (units : List UnitModel) (n : ℕ) → ((k : ℕ) → k < n → (get_or units k no_unit).kind ≡ Root → ⊥) → numbers_upto is_dealt units n ≡ numbers_upto is_secure units n
dealt_before units zero h = refl
dealt_before units (suc n) h =
    let next : n + 1 ≡ suc n = omega arith in
    subst (λ m. numbers_upto is_dealt units m ≡ numbers_upto is_secure units m) next
    (numbers_more is_dealt units n
    ∙ ap₂ (λ (ns : List ℕ) (b : Bool). ns ++ cond b (n ∷ []) []) (dealt_before units n (λ k l. h k (omega (arith, l)))) (dealt_as_secure (get_or units n no_unit).kind (h n (omega arith)))
    ∙ sym (numbers_more is_secure units n))

-- those that are dealt are the secure ones, and the root
dealt_numbers : (p : PreparedModel) → IsPrepared p → numbers_upto is_dealt p.units (length p.units) ≡ secure_numbers p.units ++ root_number p ∷ []
dealt_numbers p is =
    let n : ℕ = root_number p in
    let last : n + 1 ≡ length p.units = omega (arith, (tells p is).some) in
    let before : numbers_upto is_dealt p.units n ≡ numbers_upto is_secure p.units n
    = dealt_before p.units n (λ k l. before_root p.a.schema p.a.tables p.b.tables p.a.root p.units is.units k (omega (arith, l, last))) in
    let secure : secure_numbers p.units ≡ numbers_upto is_secure p.units n
    = ap (numbers_upto is_secure p.units) (sym last) ∙ numbers_more is_secure p.units n
    ∙ ap (λ (k : UnitKind). numbers_upto is_secure p.units n ++ cond (is_secure k) (n ∷ []) []) (root_kind p is) ∙ append-nil (numbers_upto is_secure p.units n) in
    ap (numbers_upto is_dealt p.units) (sym last) ∙ numbers_more is_dealt p.units n
    ∙ ap₂ (λ (ns : List ℕ) (k : UnitKind). ns ++ cond (is_dealt k) (n ∷ []) []) (before ∙ sym secure) (root_kind p is)

-- ---- what a unit begins with is what its circuit takes
starts_as : (m n : Net) (s t : Start) → m ≡ n → s ≡ t → Takes n t.own t.given → Takes m s.own s.given
starts_as m n s t e f h = subst (λ (net : Net). Takes net s.own s.given) (sym e) (subst (λ (one : Start). Takes n one.own one.given) (sym f) h)

pub taken_as : (m n : Net) (start : Start) → m ≡ n → Takes n start.own start.given → Takes m start.own start.given
taken_as m n start e h = subst (λ (net : Net). Takes net start.own start.given) (sym e) h

pub secure_fits : (p : PreparedModel) → IsPrepared p → (u : ℕ) (start : Start) → u < length p.units → is_secure (unit_at p u).kind ≡ true → start ≡ secure_start p u → Takes (net_at p u) start.own start.given
secure_fits p is u start h k s = subst (λ (one : Start). Takes (net_at p u) one.own one.given) (sym s) (secure_takes p is u h (secure_kind (unit_at p u).kind k))

pub root_takes : (p : PreparedModel) → IsPrepared p → (tape : Tape) (ticket u : ℕ) (net : Net) (start : Start) (runs : List Run) → u ≡ root_number p → net ≡ net_at p u → start ≡ root_start p runs → runs ≡ secure_runs p tape ticket
    → Takes net start.own start.given
root_takes p is tape ticket u net start runs e n s r =
    starts_as net (net_at p (root_number p)) start (root_start p (secure_runs p tape ticket)) (n ∙ ap (net_at p) e) (s ∙ ap (root_start p) r) (root_fits p is tape ticket)

-- ---- jobs, each of which gives what it is seen as
each_given : {X : Type 0} (jobs outs : List X) → length outs ≡ length jobs → EachGives (λ (job out : X). out ≡ job) jobs outs → outs ≡ jobs
each_given [] [] l e = refl
each_given [] (o ∷ os) l e = absurd (omega (arith, l))
each_given (j ∷ js) [] l e = absurd (omega (arith, l))
each_given (j ∷ js) (o ∷ os) l e = ap₂ (λ x xs. x ∷ xs) (e 0 j o (omega arith)) (each_given js os (omega (arith, l)) (λ i job out h. e (suc i) job out (omega (arith, h))))

pub twins_given : {E : Type 0} (jobs twins : List UnitTwin) (r : Result (Vec UnitTwin Global) E) → IfOk r (λ outs. length outs.items ≡ length jobs)
    → IfOk r (λ outs. EachGives (λ (job twin : UnitTwin). twin ≡ job) jobs outs.items) → jobs ≡ twins → IfOk r (λ outs. outs.items ≡ twins)
twins_given jobs twins (Ok outs) count each are = each_given jobs outs.items count each ∙ are
twins_given jobs twins (Err e) count each are = count

-- ---- one unit, where both worlds have the same units
module _ (site : Site) (p q : PreparedModel) (same : q.units ≡ p.units) where
  pub second_net : (u : ℕ) → net_at p u ≡ net_at q u
  second_net u = ap (λ (units : List UnitModel). net_or (get_or units u no_unit).circuit) (sym same)

  pub second_secure : (u : ℕ) → is_secure (unit_at p u).kind ≡ true → is_secure (unit_at q u).kind ≡ true
  second_secure u e = ap (λ (units : List UnitModel). is_secure (get_or units u no_unit).kind) same ∙ e

  pub second_within : (u : ℕ) → u < length p.units → u < length q.units
  second_within u h = subst (λ (units : List UnitModel). u < length units) (sym same) h

  pub second_root : root_number p ≡ root_number q
  second_root = ap (λ (units : List UnitModel). length units - 1) (sym same)

  has : (u : ℕ) → u < length p.units → is_dealt (unit_at p u).kind ≡ true → has_section p u ≡ true
  has u h d = and_from (nat_lt u (length p.units)) (is_dealt (unit_at p u).kind) (lt-ltb u (length p.units) h) d

  module _ (tape : Tape) (ticket : ℕ) where
    abbrev next : Tape
    next = shift_tape site p q ticket tape

    first_run : (u : ℕ) (start : Start) (words : List ℕ) → words ≡ section_words p tape ticket u → start_on (net_at p u) start words ≡ run_at p tape ticket u start.own start.given
    unfolding section_at
    first_run u start words w = ap (start_on (net_at p u) start) w

    second_run : (u : ℕ) (start : Start) (words : List ℕ) → has_section p u ≡ true → words ≡ changed_words site p q tape ticket u → start_on (net_at p u) start words ≡ run_at q next ticket u start.own start.given
    unfolding section_at
    second_run u start words h w =
        ap (start_on (net_at p u) start) (w ∙ sym (changed_is_read site p q tape ticket u h))
        ∙ ap (λ (net : Net). run_on net (layout_of net (first_words (next ticket u) (section_length net))) start.own start.given) (second_net u)

    -- the run of a unit in both worlds on its section
    twin_from : (u : ℕ) (starts : Starts) (words : List ℕ) → has_section p u ≡ true → words ≡ section_words p tape ticket u → changed_section site (net_at p u) starts words ≡ changed_words site p q tape ticket u
        → twin_on site (net_at p u) u starts words
        ≡ record { first = run_at p tape ticket u starts.first.own starts.first.given; second = run_at q next ticket u starts.second.own starts.second.given; change = change_at site p q tape ticket u }
    twin_from u starts words h w s =
        let change : ◌≡◌ {A = ChangeWords} (record { unit = u; places = differing words (changed_section site (net_at p u) starts words) }) (change_at site p q tape ticket u)
        = ap₂ (λ (old new : List ℕ). record { unit = u; places = differing old new }) w s in
        λ i. record { first = first_run u starts.first words w i; second = second_run u starts.second (changed_section site (net_at p u) starts words) h s i; change = change i }

    -- a secure unit
    secure_changed : (u : ℕ) (words : List ℕ) → (unit_at p u).kind ≡ Secure → words ≡ section_words p tape ticket u → changed_section site (net_at p u) (secure_starts p q u) words ≡ changed_words site p q tape ticket u
    secure_changed u words k w =
        let second : (unit_at q u).kind ≡ Secure = ap (λ (units : List UnitModel). (get_or units u no_unit).kind) same ∙ k in
        ap (λ (ws : List ℕ). shift_words site (net_at p u) (secure_plain p u) (secure_plain q u) ws) w
        ∙ sym (ap₂ (λ (a b : InputWords). shift_words site (net_at p u) a b (section_words p tape ticket u)) (ap (plain_by p u) k) (ap (plain_by q u) second))

    pub secure_twin_is : (u : ℕ) (words : List ℕ) (len : ℕ) (twin : UnitTwin) → u < length p.units → is_secure (unit_at p u).kind ≡ true → words ≡ first_words (tape ticket u) len → len ≡ section_length_at p u
        → twin ≡ twin_on site (net_at p u) u (secure_starts p q u) words → twin ≡ secure_twin site p q tape ticket u
    unfolding secure_twin secure_run
    secure_twin_is u words len twin h k w l t =
        let section : words ≡ section_words p tape ticket u = w ∙ ap (first_words (tape ticket u)) l in
        t ∙ twin_from u (secure_starts p q u) words (has u h (secure_is_dealt (unit_at p u).kind k)) section (secure_changed u words (secure_kind (unit_at p u).kind k) section)

    -- the root
    abbrev roots : List Run → List Run → Starts
    roots first second = record { first = root_start p first; second = root_start q second }

    abbrev both_roots : Starts
    both_roots = roots (secure_runs p tape ticket) (secure_runs q next ticket)

    -- with the number that the second world's root has
    abbrev root_pair : ℕ → UnitTwin
    root_pair n = record {
      first = run_at p tape ticket (root_number p) p.own (outputs_of (secure_runs p tape ticket));
      second = run_at q next ticket n q.own (outputs_of (secure_runs q next ticket));
      change = change_at site p q tape ticket (root_number p);
    }

    root_changed : IsPrepared p → (words : List ℕ) → words ≡ section_words p tape ticket (root_number p)
        → changed_section site (net_at p (root_number p)) both_roots words ≡ changed_words site p q tape ticket (root_number p)
    root_changed is words w =
        let u : ℕ = root_number p in
        let net : Net = net_at p u in
        let kind : (unit_at p u).kind ≡ Root = root_kind p is in
        let second : (unit_at q u).kind ≡ Root = ap (λ (units : List UnitModel). (get_or units u no_unit).kind) same ∙ kind in
        ap₂ (λ (a b : InputWords). shift_words site net a b words) (root_runs_on p tape ticket) (root_runs_on q next ticket)
        ∙ ap (λ (ws : List ℕ). shift_words site net (root_plain p) (root_plain q) ws) w
        ∙ sym (ap₂ (λ (a b : InputWords). shift_words site net a b (section_words p tape ticket u)) (ap (plain_by p u) kind) (ap (plain_by q u) second))

    root_is : IsPrepared p → (words : List ℕ) → words ≡ section_words p tape ticket (root_number p) → twin_on site (net_at p (root_number p)) (root_number p) both_roots words ≡ root_twin site p q tape ticket
    unfolding root_twin root_run
    root_is is words w =
        let u : ℕ = root_number p in
        twin_from u both_roots words (has u (root_within p is) (root_dealt p is u refl)) w (root_changed is words w)
        ∙ ap root_pair second_root

    pub root_twin_is : IsPrepared p → (u : ℕ) (net : Net) (starts : Starts) (words : List ℕ) (len : ℕ) (first second : List Run) (twin : UnitTwin) → u ≡ root_number p → net ≡ net_at p u → starts ≡ record { first = root_start p first; second = root_start q second }
        → first ≡ secure_runs p tape ticket → second ≡ secure_runs q next ticket → words ≡ first_words (tape ticket u) len → len ≡ section_length net → twin ≡ twin_on site net u starts words → twin ≡ root_twin site p q tape ticket
    root_twin_is is u net starts words len first second twin e n s f g w l t =
        let at : net ≡ net_at p (root_number p) = n ∙ ap (net_at p) e in
        let begun : starts ≡ both_roots = s ∙ ap₂ roots f g in
        let section : words ≡ section_words p tape ticket (root_number p) = w ∙ ap₂ (λ v k. first_words (tape ticket v) k) e (l ∙ ap (λ (m : Net). section_length m) at) in
        t ∙ ap₂ (λ (m : Net) (one : Starts). twin_on site m u one words) at begun ∙ ap (λ v. twin_on site (net_at p (root_number p)) v both_roots words) e ∙ root_is is words section

    -- ---- all units
    mapped : {X : Type 0} (f : UnitTwin → X) (g : ℕ → X) → ((u : ℕ) → f (secure_twin site p q tape ticket u) ≡ g u) → (us : List ℕ) → map f (map (secure_twin site p q tape ticket) us) ≡ map g us
    mapped f g h [] = refl
    mapped {X} f g h (u ∷ us) = ap₂ (λ (x : X) (xs : List X). x ∷ xs) (h u) (mapped f g h us)

    secure_first : (u : ℕ) → (secure_twin site p q tape ticket u).first ≡ secure_run p tape ticket u
    unfolding secure_twin
    secure_first u = refl

    secure_second : (u : ℕ) → (secure_twin site p q tape ticket u).second ≡ secure_run q next ticket u
    unfolding secure_twin
    secure_second u = refl

    secure_change : (u : ℕ) → (secure_twin site p q tape ticket u).change ≡ change_at site p q tape ticket u
    unfolding secure_twin
    secure_change u = refl

    pub first_runs : (twins : List UnitTwin) → twins ≡ secure_twins site p q tape ticket → map (λ (t : UnitTwin). t.first) twins ≡ secure_runs p tape ticket
    first_runs twins e = ap (map (λ (t : UnitTwin). t.first)) e ∙ mapped (λ (t : UnitTwin). t.first) (secure_run p tape ticket) secure_first (secure_numbers p.units)

    pub second_runs : (twins : List UnitTwin) → twins ≡ secure_twins site p q tape ticket → map (λ (t : UnitTwin). t.second) twins ≡ secure_runs q next ticket
    second_runs twins e =
        ap (map (λ (t : UnitTwin). t.second)) e ∙ mapped (λ (t : UnitTwin). t.second) (secure_run q next ticket) secure_second (secure_numbers p.units)
        ∙ ap (λ (units : List UnitModel). map (secure_run q next ticket) (secure_numbers units)) (sym same)

    pub secure_changes : (twins : List UnitTwin) → twins ≡ secure_twins site p q tape ticket → map (λ (t : UnitTwin). t.change) twins ≡ map (change_at site p q tape ticket) (secure_numbers p.units)
    secure_changes twins e = ap (map (λ (t : UnitTwin). t.change)) e ∙ mapped (λ (t : UnitTwin). t.change) (change_at site p q tape ticket) secure_change (secure_numbers p.units)

    pub all_first : (old new : List Run) (root : UnitTwin) → old ≡ secure_runs p tape ticket → root ≡ root_twin site p q tape ticket → new ≡ old ++ root.first ∷ [] → new ≡ runs_of p tape ticket
    unfolding root_twin
    all_first old new root o r n = n ∙ ap₂ (λ (xs : List Run) (t : UnitTwin). xs ++ t.first ∷ []) o r

    pub all_second : (old new : List Run) (root : UnitTwin) → old ≡ secure_runs q next ticket → root ≡ root_twin site p q tape ticket → new ≡ old ++ root.second ∷ [] → new ≡ runs_of q next ticket
    unfolding root_twin
    all_second old new root o r n = n ∙ ap₂ (λ (xs : List Run) (t : UnitTwin). xs ++ t.second ∷ []) o r

    pub all_changes : IsPrepared p → (old new : List ChangeWords) (root : UnitTwin) → old ≡ map (change_at site p q tape ticket) (secure_numbers p.units) → root ≡ root_twin site p q tape ticket → new ≡ old ++ root.change ∷ []
        → new ≡ changes site p q tape ticket
    unfolding root_twin
    all_changes is old new root o r n =
        n ∙ ap₂ (λ (xs : List ChangeWords) (t : UnitTwin). xs ++ t.change ∷ []) o r
        ∙ sym (ap (map (change_at site p q tape ticket)) (dealt_numbers p is) ∙ map-append (change_at site p q tape ticket) (secure_numbers p.units) (root_number p ∷ []))
