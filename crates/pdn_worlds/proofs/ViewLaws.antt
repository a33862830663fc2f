-- Views: what they are where each unit's run is the same to a site, and that they read their own ticket alone.
use Rattle.std.proofs.Common.{◌≡◌, ℕ, ◌+◌, ◌<◌, List, [], ◌∷◌, length, get_or, map, refl, ap, ap₂, arith}
use Rattle.std.specs.List.{All, AllByRecursion, range_with_len}
use Rattle.std.proofs.lemmas.List.Elements.{All-from_get_or}
use Rattle.std.proofs.lemmas.List.FromFn.{length-range_with_len, get_or-range_with_len}
use Rattle.pdn_base.specs.declared.site.Site.{Site}
use Rattle.pdn_circuit.specs.Gates.{Net}
use Rattle.pdn_dealer.specs.Sections.{section_length, layout_of}
use Rattle.pdn_gmw.specs.Pairs.{Run}
use Rattle.pdn_site.specs.declared.unit.UnitKind.{UnitKind}
use Rattle.pdn_site.specs.declared.unit.UnitKind.TheVariants.{Plain, Secure, Root}
use Rattle.pdn_view.specs.Views.{Part}
use Rattle.pdn_broker.specs.Runs.{Tape, section_at, run_on}
use Rattle.pdn_broker.specs.Answering.{nothing_given}
use Rattle.pdn_broker.specs.Units.{net_or, secure_numbers}
use Rattle.pdn_broker.specs.Running.{unit_at, root_number, root_of, engines_own, secure_run, secure_runs, outputs_of, root_run}
use Rattle.pdn_broker.specs.Prepared.{PreparedModel}
use Rattle.pdn_broker.specs.Views.{half_of, part_by, site_part, site_view}
use Rattle.pdn_worlds.specs.TwoWorlds.{OwnTicketLaw}
use Rattle.pdn_worlds.proofs.TapeRows.{first_same}

-- ---- lists made of numbers
pub map_where : {X Y : Type 0} (P : X → Type 0) (f g : X → Y) (xs : List X) → AllByRecursion P xs → ((x : X) → P x → f x ≡ g x) → map f xs ≡ map g xs
map_where P f g [] all h = refl
map_where {X} {Y} P f g (x ∷ xs) all h = ap₂ (λ (y : Y) (ys : List Y). y ∷ ys) (h x all.0) (map_where P f g xs all.1 h)

pub map_same : {X Y : Type 0} (f g : X → Y) (xs : List X) → ((x : X) → f x ≡ g x) → map f xs ≡ map g xs
map_same f g [] h = refl
map_same {X} {Y} f g (x ∷ xs) h = ap₂ (λ (y : Y) (ys : List Y). y ∷ ys) (h x) (map_same f g xs h)

-- the numbers of a list's places are below its length
pub range_below : (n : ℕ) → All (λ k. k < n) (range_with_len 0 n)
range_below n =
    All-from_get_or (λ k. k < n) (range_with_len 0 n) 0
    (λ i l. let at : get_or (range_with_len 0 n) i 0 ≡ 0 + i = get_or-range_with_len 0 n i 0 (omega (arith, l, length-range_with_len 0 n)) in omega (arith, at, l, length-range_with_len 0 n))

-- ---- a tape that has the same words under a ticket
module _ (p : PreparedModel) (tape other : Tape) (ticket : ℕ) (same : (u place : ℕ) → other ticket u place ≡ tape ticket u place) where
  section_same : (u : ℕ) (net : Net) → section_at other (record { ticket = ticket; unit = u }) net ≡ section_at tape (record { ticket = ticket; unit = u }) net
  unfolding section_at
  section_same u net = ap (layout_of net) (first_same (other ticket u) (tape ticket u) (section_length net) (λ k. same u k))

  secure_same : (u : ℕ) → secure_run p other ticket u ≡ secure_run p tape ticket u
  unfolding secure_run
  secure_same u = let net : Net = net_or (unit_at p u).circuit in ap (λ t. run_on net t (engines_own p.a p.b (unit_at p u)) nothing_given) (section_same u net)

  runs_same : secure_runs p other ticket ≡ secure_runs p tape ticket
  runs_same = map_same (secure_run p other ticket) (secure_run p tape ticket) (secure_numbers p.units) secure_same

  root_same : root_run p other ticket ≡ root_run p tape ticket
  unfolding root_run
  root_same =
      let net : Net = net_or (root_of p).circuit in
      ap₂ (λ t (runs : List Run). run_on net t p.own (outputs_of runs)) (section_same (root_number p) net) runs_same

  part_same : (site : Site) (u : ℕ) (kind : UnitKind) → part_by site p other ticket u kind ≡ part_by site p tape ticket u kind
  part_same site u (Plain at) = refl
  part_same site u Secure = ap (λ (run : Run). record (part_by site p tape ticket u Secure) { words = (half_of site run).view }) (secure_same u)
  part_same site u Root = ap (λ (run : Run). record (part_by site p tape ticket u Root) { words = (half_of site run).view }) root_same

  view_same : (site : Site) → site_view site p other ticket ≡ site_view site p tape ticket
  view_same site =
      ap (λ (units : List Part). record (site_view site p tape ticket) { units = units })
      (map_same (site_part site p other ticket) (site_part site p tape ticket) (range_with_len 0 (length p.units)) (λ u. part_same site u (unit_at p u).kind))

pub own_ticket_law : OwnTicketLaw
own_ticket_law site p tape other ticket same = view_same p tape other ticket same site
