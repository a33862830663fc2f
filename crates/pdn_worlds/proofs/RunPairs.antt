-- Two runs of one circuit that a site can't tell apart.
use Rattle.std.proofs.Common.{◌≡◌, ℕ, List, [], ◌∷◌, length, refl, sym, ap, ap₂, ◌∙◌, arith}
use Rattle.std.proofs.lemmas.Nat.{xor_comm}
use Rattle.std.specs.List.{flat_map}
use Rattle.pdn_base.specs.declared.site.Site.{Site}
use Rattle.pdn_base.specs.declared.site.Site.TheVariants.{A, B}
use Rattle.pdn_base.specs.Words.{◌⊕◌, xor_lists}
use Rattle.pdn_base.proofs.WordLaws.{xor_twice}
use Rattle.pdn_base.proofs.WordLists.{length-xor_lists}
use Rattle.pdn_circuit.specs.Gates.{Net, InputWords, words_of, InOrder}
use Rattle.pdn_dealer.specs.Sections.{Layout, Covers, layout_of, section_length}
use Rattle.pdn_dealer.specs.Tapes.{first_words}
use Rattle.pdn_dealer.proofs.SectionWords.{covers_of}
use Rattle.pdn_gmw.specs.Shares.{World, view_of, put_out}
use Rattle.pdn_gmw.specs.Halves.{given_shares}
use Rattle.pdn_gmw.specs.Pairs.{Run}
use Rattle.pdn_gmw.proofs.Meeting.{joined_again, length-first_words}
use Rattle.pdn_shift.specs.Changes.{shift, shift_words}
use Rattle.pdn_shift.specs.Worlds.{SameFor}
use Rattle.pdn_shift.proofs.TwoWorlds.{unit_law}
use Rattle.pdn_broker.specs.declared.answered.Dealt.{Dealt}
use Rattle.pdn_broker.specs.Runs.{Both, Tape, section_at, world, run_on}
use Rattle.pdn_broker.specs.Running.{outputs_of}
use Rattle.pdn_broker.specs.Views.{half_of}
use Rattle.pdn_worlds.proofs.TapeRows.{layout_changed}

abbrev pub of_site : Site → Both → List ℕ
of_site A both = both.a
of_site B both = both.b

-- a site sees the same of both, and puts out the same
pub record RunsAlike (site : Site) (first second : Run) : Type 0 where
  pub view : (half_of site second).view ≡ (half_of site first).view
  pub outputs : (half_of site second).outputs ≡ (half_of site first).outputs

-- ---- a run, as a site's half of it ends
view_is : (site : Site) (net : Net) (t : Layout) (own given : Both) → (half_of site (run_on net t own given)).view ≡ view_of site (world own given) t net
unfolding run_on
view_is A net t own given = ap (λ (s : Layout). view_of A (world own given) s net) (joined_again t)
view_is B net t own given = ap (λ (s : Layout). view_of B (world own given) s net) (joined_again t)

outputs_are : (site : Site) (net : Net) (t : Layout) (own given : Both) → (half_of site (run_on net t own given)).outputs ≡ put_out site (world own given) t net
unfolding run_on
outputs_are A net t own given = ap (λ (s : Layout). put_out A (world own given) s net) (joined_again t)
outputs_are B net t own given = ap (λ (s : Layout). put_out B (world own given) s net) (joined_again t)

-- ---- what a site brings along: its own words, and its shares of the given ones
own_is : (site : Site) (own given : Both) → words_of site (world own given).inputs ≡ of_site site own
own_is A own given = refl
own_is B own given = refl

shares_back : (xs ys : List ℕ) → length ys ≡ length xs → xor_lists (xor_lists xs ys) xs ≡ ys
shares_back [] [] l = refl
shares_back [] (y ∷ ys) l = absurd (omega arith)
shares_back (x ∷ xs) [] l = absurd (omega arith)
shares_back (x ∷ xs) (y ∷ ys) l = ap₂ (λ z (zs : List ℕ). z ∷ zs) (xor_comm (x ⊕ y) x ∙ xor_twice x y) (shares_back xs ys (omega arith))

given_is : (site : Site) (own given : Both) → length given.b ≡ length given.a → given_shares site (world own given) ≡ of_site site given
given_is A own given l = refl
given_is B own given l = shares_back given.a given.b l

-- the law of one unit, of two runs
pub runs_alike : (site : Site) (net : Net) (t : Layout) (own given other more : Both) → InOrder net.gates → Covers net t → length given.b ≡ length given.a → length more.b ≡ length more.a
    → of_site site other ≡ of_site site own → of_site site more ≡ of_site site given
    → RunsAlike site (run_on net t own given) (run_on net (shift site net (world own given).inputs (world other more).inputs t) other more)
runs_alike site net t own given other more order covers l m e g =
    let first : World = world own given in
    let second : World = world other more in
    let same : SameFor site first second = record {
      own = own_is site own given ∙ sym e ∙ sym (own_is site other more);
      given = given_is site own given l ∙ sym g ∙ sym (given_is site other more m);
    } in
    let alike = unit_law site net first second t order covers (sym (length-xor_lists given.a given.b l)) (sym (length-xor_lists more.a more.b m)) same in
    let changed : Layout = shift site net first.inputs second.inputs t in
    record {
      view = view_is site net changed other more ∙ sym alike.view ∙ sym (view_is site net t own given);
      outputs = outputs_are site net changed other more ∙ sym alike.outputs ∙ sym (outputs_are site net t own given);
    }

-- what a site's halves of some runs put out
pub outputs_by : (site : Site) (runs : List Run) → of_site site (outputs_of runs) ≡ flat_map (λ (run : Run). (half_of site run).outputs) runs
outputs_by A runs = refl
outputs_by B runs = refl

-- ---- sections of two tapes
pub covers_at : (tape : Tape) (at : Dealt) (net : Net) → Covers net (section_at tape at net)
unfolding section_at
covers_at tape at net = covers_of net (first_words (tape at.ticket at.unit) (section_length net)) (length-first_words (tape at.ticket at.unit) (section_length net))

pub section_changed : (site : Site) (net : Net) (first second : InputWords) (tape next : Tape) (at : Dealt)
    → first_words (next at.ticket at.unit) (section_length net) ≡ shift_words site net first second (first_words (tape at.ticket at.unit) (section_length net))
    → section_at next at net ≡ shift site net first second (section_at tape at net)
unfolding section_at
section_changed site net first second tape next at e =
    let row : ℕ → ℕ = tape at.ticket at.unit in
    ap (layout_of net) e ∙ layout_changed site net first second (first_words row (section_length net)) (length-first_words row (section_length net))
