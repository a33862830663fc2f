-- What a site sees of a query is told by its runs.
use Rattle.std.proofs.Common.{◌≡◌, ℕ, zero, suc, ◌+◌, ◌<◌, true, List, [], ◌∷◌, ◌++◌, length, length-append, get_or, map, cond, refl, sym, ap, ap₂, ◌∙◌, subst, arith}
use Rattle.std.specs.List.{range_with_len}
use Rattle.std.proofs.lemmas.List.{length-map}
use Rattle.std.proofs.lemmas.List.FromFn.{map-range_with_len_more}
use Rattle.pdn_base.specs.declared.site.Site.{Site}
use Rattle.pdn_gmw.specs.Pairs.{Run}
use Rattle.pdn_site.specs.declared.unit.UnitKind.{UnitKind}
use Rattle.pdn_site.specs.declared.unit.UnitKind.TheVariants.{Plain, Secure, Root}
use Rattle.pdn_site.specs.Models.{Dirs, UnitModel}
use Rattle.pdn_site.specs.Engines.{no_unit, value_of}
use Rattle.pdn_view.specs.declared.view.Party.{Party}
use Rattle.pdn_view.specs.declared.view.Party.TheVariants as parties
use Rattle.pdn_view.specs.declared.due.Due.TheVariants as due
use Rattle.pdn_view.specs.Views.{Part, ViewWords, words_of}
use Rattle.pdn_broker.specs.declared.answered.Dealt.{Dealt}
use Rattle.pdn_broker.specs.Runs.{Tape}
use Rattle.pdn_broker.specs.Units.{is_dealt, numbers_upto, dealt_of}
use Rattle.pdn_broker.specs.Prepared.{PreparedModel, IsPrepared}
use Rattle.pdn_broker.specs.Running.{unit_at, secure_runs, root_run, runs_of, AreRuns}
use Rattle.pdn_broker.specs.Views.{half_of, party_of, part_by, site_part, site_view, broker_view, part_on, run_place, part_from}
use Rattle.pdn_broker.proofs.UnitPlaces.{place_within, place_next, run_by, unit_run, runs_count, run_there}

-- ---- the loop over the units

-- one part more
pub parts_more : (f : ℕ → Part) (k : ℕ) (old new : List Part) (part : Part) → old ≡ map f (range_with_len 0 k) → new ≡ old ++ part ∷ [] → part ≡ f k → new ≡ map f (range_with_len 0 (k + 1))
parts_more f k old new part o n e = n ∙ ap₂ (λ (ps : List Part) (q : Part). ps ++ q ∷ []) o e ∙ sym (map-range_with_len_more f 0 k k (omega arith))

-- ---- the parts of a query's units

part_same : (site : Site) (p : PreparedModel) (tape : Tape) (ticket u : ℕ) (run : Run) (k : UnitKind) → (is_dealt k ≡ true → run ≡ run_by p tape ticket u k) → part_on site (unit_at p u) run k ≡ part_by site p tape ticket u k
part_same site p tape ticket u run (Plain at) h = refl
part_same site p tape ticket u run Secure h = ap (λ (r : Run). record { due = due.Secure (value_of (unit_at p u)); words = (half_of site r).view }) (h refl)
part_same site p tape ticket u run Root h = ap (λ (r : Run). record { due = due.Root; words = (half_of site r).view }) (h refl)

map_upto : {X : Type 0} (f g : ℕ → X) (n : ℕ) → ((k : ℕ) → k < n → f k ≡ g k) → map f (range_with_len 0 n) ≡ map g (range_with_len 0 n)
map_upto f g zero h = refl
map_upto {X} f g (suc n) h =
    let next : n + 1 ≡ suc n = omega arith in
    subst (λ m. map f (range_with_len 0 m) ≡ map g (range_with_len 0 m)) next
    (map-range_with_len_more f 0 n n (omega arith) ∙ ap₂ (λ (xs : List X) x. xs ++ x ∷ []) (map_upto f g n (λ k l. h k (omega (arith, l)))) (h n (omega arith)) ∙ sym (map-range_with_len_more g 0 n n (omega arith)))

pub parts_mean : (p : PreparedModel) → IsPrepared p → (site : Site) (tape : Tape) (ticket : ℕ) (runs : List Run) (other : Run) → runs ≡ runs_of p tape ticket
    → map (part_from site p.units runs other) (range_with_len 0 (length p.units)) ≡ map (site_part site p tape ticket) (range_with_len 0 (length p.units))
parts_mean p is site tape ticket runs other e =
    map_upto (part_from site p.units runs other) (site_part site p tape ticket) (length p.units)
    (λ k l. part_same site p tape ticket k (get_or runs (run_place p.units k) other) (unit_at p k).kind
    (λ d. ap (λ (rs : List Run). get_or rs (run_place p.units k) other) e ∙ run_there p is tape ticket k other l d))

-- as many runs as units that are dealt
pub count_of_runs : (p : PreparedModel) → IsPrepared p → (ticket : ℕ) (runs : List Run) → AreRuns p ticket runs → length runs ≡ run_place p.units (length p.units)
count_of_runs p is ticket runs are = ap (λ (rs : List Run). length rs) are.1 ∙ runs_count p is are.0 ticket

-- ---- in code

-- the run of a unit that is dealt is there
pub place_there : (units : List UnitModel) (runs : List Run) (k place : ℕ) (unit : UnitModel) → length runs ≡ run_place units (length units) → place ≡ run_place units k → unit ≡ get_or units k no_unit → k < length units
    → is_dealt unit.kind ≡ true → place < length runs
place_there units runs k place unit count at u l d =
    omega (arith, count, at, place_within units k (length units) (subst (λ (m : UnitModel). is_dealt m.kind ≡ true) u d) l)

-- the next unit's part
pub part_next : (site : Site) (units : List UnitModel) (runs : List Run) (other : Run) (k place : ℕ) (unit : UnitModel) (old new : List Part) (part : Part) → place ≡ run_place units k → unit ≡ get_or units k no_unit
    → old ≡ map (part_from site units runs other) (range_with_len 0 k) → new ≡ old ++ part ∷ [] → part ≡ part_on site unit (get_or runs place other) unit.kind → new ≡ map (part_from site units runs other) (range_with_len 0 (k + 1))
part_next site units runs other k place unit old new part at u o n e =
    parts_more (part_from site units runs other) k old new part o n
    (e ∙ ap₂ (λ (m : UnitModel) j. part_on site m (get_or runs j other) m.kind) u at)

pub place_moves : (units : List UnitModel) (k place next : ℕ) (unit : UnitModel) → place ≡ run_place units k → unit ≡ get_or units k no_unit → next ≡ place + cond (is_dealt unit.kind) 1 0 → next ≡ run_place units (k + 1)
place_moves units k place next unit at u n = n ∙ ap₂ (λ j (m : UnitModel). j + cond (is_dealt m.kind) 1 0) at u ∙ sym (place_next units k)

view_with : Party → ℕ → List Dirs → List Part → ViewWords
view_with party ticket dirs units = record { party = party; ticket = ticket; dirs = dirs; units = units }

-- a site's view, of a query that stands in code as q
pub site_made : (p q : PreparedModel) → q ≡ p → IsPrepared q → (site : Site) (tape : Tape) (ticket : ℕ) (runs : List Run) (party : Party) (dirs : List Dirs) (parts : List Part) → runs ≡ runs_of p tape ticket
    → party ≡ party_of site → dirs ≡ q.dirs → parts ≡ map (part_from site q.units runs (root_run p tape ticket)) (range_with_len 0 (length q.units))
    → ◌≡◌ {A = ViewWords} (record { party = party; ticket = ticket; dirs = dirs; units = parts }) (site_view site p tape ticket)
unfolding view_with
site_made p q e is site tape ticket runs party dirs parts r at d ps =
    let is_p : IsPrepared p = subst IsPrepared e is in
    let made : parts ≡ map (site_part site p tape ticket) (range_with_len 0 (length p.units))
    = ps ∙ ap (λ (x : PreparedModel). map (part_from site x.units runs (root_run p tape ticket)) (range_with_len 0 (length x.units))) e ∙ parts_mean p is_p site tape ticket runs (root_run p tape ticket) r in
    ap (λ (x : Party). view_with x ticket dirs parts) at
    ∙ ap₂ (λ (ds : List Dirs) (us : List Part). view_with (party_of site) ticket ds us) (d ∙ ap (λ (x : PreparedModel). x.dirs) e) made

-- the broker's
pub broker_made : (p : PreparedModel) (tape : Tape) (ticket : ℕ) (run : Run) (dirs : List Dirs) (a b : List ℕ) → dirs ≡ p.dirs → a ≡ run.a.outputs → b ≡ run.b.outputs → run ≡ root_run p tape ticket
    → ◌≡◌ {A = ViewWords} (record { party = parties.Broker; ticket = ticket; dirs = dirs; units = record { due = due.Outputs; words = words_of a b } ∷ [] }) (broker_view p tape ticket)
unfolding view_with
broker_made p tape ticket run dirs a b d ea eb r =
    ap (λ (ds : List Dirs). view_with parties.Broker ticket ds (record { due = due.Outputs; words = words_of a b } ∷ [])) d
    ∙ ap₂ (λ (xs ys : List ℕ). view_with parties.Broker ticket p.dirs (record { due = due.Outputs; words = words_of xs ys } ∷ []))
    (ea ∙ ap (λ (x : Run). x.a.outputs) r) (eb ∙ ap (λ (x : Run). x.b.outputs) r)

-- there is a last run
pub some_runs : (p : PreparedModel) (ticket : ℕ) (runs : List Run) → AreRuns p ticket runs → 0 < length runs
some_runs p ticket runs are =
    omega (arith, ap (λ (rs : List Run). length rs) are.1, length-append (secure_runs p are.0 ticket) (root_run p are.0 ticket ∷ []))

-- each run is told with its section
pub runs_and_sections : (p : PreparedModel) → IsPrepared p → (tape : Tape) (ticket : ℕ) (runs : List Run) (dealt : List Dealt) → runs ≡ runs_of p tape ticket → dealt ≡ dealt_of ticket p.units → length runs ≡ length dealt
runs_and_sections p is tape ticket runs dealt r d =
    count_of_runs p is ticket runs (tape, r)
    ∙ sym (ap (λ (ds : List Dealt). length ds) d ∙ length-map (numbers_upto is_dealt p.units (length p.units)) (λ u. record { ticket = ticket; unit = u }))
