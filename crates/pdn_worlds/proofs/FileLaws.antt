-- All views of a file of queries at once, and its change made back.
use Rattle.std.proofs.Common.{◌≡◌, ◌≢◌, ℕ, List, [], ◌∷◌, map, refl, sym, ap, ap₂, ◌∙◌, subst, ⊎_elim}
use Rattle.std.specs.Prelude.{◌&&◌, nat_lt, ◌==◌, if◌then◌else◌, slice_index}
use Rattle.std.specs.List.{AllByRecursion}
use Rattle.std.proofs.lemmas.Bool.{cond-false, and_left, ne_eqb, cases_eq}
use Rattle.pdn_base.specs.declared.site.Site.{Site}
use Rattle.pdn_agree.specs.EqualShapes.{ShapesLaw}
use Rattle.pdn_view.specs.Views.{ViewWords}
use Rattle.pdn_broker.specs.Runs.{Tape}
use Rattle.pdn_broker.specs.Prepared.{PreparedModel}
use Rattle.pdn_shift.specs.Changes.{shift_words}
use Rattle.pdn_worlds.specs.PlainWords.{net_at, plain_at}
use Rattle.pdn_worlds.specs.TapeChange.{has_section, section_length_at, is_of_query, changed_words, shift_tape}
use Rattle.pdn_worlds.specs.WholeFile.{Query, shift_query, shift_file, seen_first, AllAreWorlds, UsesTicketsOnce, FileLaw, FileBackLaw, exchanged}
use Rattle.pdn_worlds.proofs.TapeRows.{first_same}
use Rattle.pdn_worlds.proofs.ViewLaws.{own_ticket_law}
use Rattle.pdn_worlds.proofs.QueryLaws.{transcript_law, way_back_law}

-- ---- words of another ticket
abbrev IsOther : ℕ → Query → Type 0
IsOther ticket query = query.ticket ≢ ticket

pub other_ticket : (site : Site) (p q : PreparedModel) (tape : Tape) (ticket at : ℕ) → (ticket ≡ at → ⊥) → (u place : ℕ) → shift_tape site p q ticket tape at u place ≡ tape at u place
other_ticket site p q tape ticket at other u place =
    cond-false (is_of_query p ticket at u place) _ _ (and_left (at == ticket) (has_section p u && nat_lt place (section_length_at p u)) (ne_eqb at ticket (λ e. other (sym e))))

left_alone : (site : Site) (ticket : ℕ) (queries : List Query) (tape : Tape) → AllByRecursion (IsOther ticket) queries → (u place : ℕ) → shift_file site queries tape ticket u place ≡ tape ticket u place
left_alone site ticket [] tape others u place = refl
left_alone site ticket (query ∷ queries) tape others u place =
    left_alone site ticket queries (shift_query site query tape) others.1 u place
    ∙ other_ticket site query.first query.second tape query.ticket ticket others.0 u place

-- ---- views
first_kept : (site : Site) (query : Query) (queries : List Query) (tape : Tape) → AllByRecursion (IsOther query.ticket) queries
    → map (seen_first site (shift_query site query tape)) queries ≡ map (seen_first site tape) queries
first_kept site query [] tape others = refl
first_kept site query (one ∷ more) tape others =
    ap₂ (λ (view : ViewWords) views. view ∷ views)
    (own_ticket_law site one.first tape (shift_query site query tape) one.ticket (λ u place. other_ticket site query.first query.second tape query.ticket one.ticket (λ e. others.0 (sym e)) u place))
    (first_kept site query more tape others.1)

pub file_law : ShapesLaw → FileLaw
file_law law site [] tape all once = refl
file_law law site (query ∷ queries) tape all once =
    let next : Tape = shift_query site query tape in
    let last : Tape = shift_file site queries next in
    ap₂ (λ (view : ViewWords) views. view ∷ views)
    (own_ticket_law site query.second next last query.ticket (λ u place. left_alone site query.ticket queries next once.0 u place)
    ∙ transcript_law law site query.first query.second all.0 tape query.ticket)
    (file_law law site queries next all.1 once.1 ∙ first_kept site query queries tape once.0)

-- ---- and back
-- the change at a ticket reads the tape at this ticket alone
changed_same : (site : Site) (p q : PreparedModel) (tape other : Tape) (ticket u : ℕ) → ((place : ℕ) → other ticket u place ≡ tape ticket u place) → changed_words site p q other ticket u ≡ changed_words site p q tape ticket u
changed_same site p q tape other ticket u h = ap (shift_words site (net_at p u) (plain_at p u) (plain_at q u)) (first_same (other ticket u) (tape ticket u) (section_length_at p u) h)

row_here : (site : Site) (p q : PreparedModel) (tape other : Tape) (ticket at : ℕ) → at ≡ ticket → ((u place : ℕ) → other at u place ≡ tape at u place) → (u place : ℕ)
    → shift_tape site p q ticket other at u place ≡ shift_tape site p q ticket tape at u place
row_here site p q tape other ticket at e h u place =
    ap₂ (λ (words : List ℕ) word. if is_of_query p ticket at u place then slice_index words place else word)
    (changed_same site p q tape other ticket u (subst (λ n. (k : ℕ) → other n u k ≡ tape n u k) e (h u))) (h u place)

same_row : (site : Site) (p q : PreparedModel) (tape other : Tape) (ticket at : ℕ) → ((u place : ℕ) → other at u place ≡ tape at u place) → (u place : ℕ)
    → shift_tape site p q ticket other at u place ≡ shift_tape site p q ticket tape at u place
same_row site p q tape other ticket at h u place =
    ⊎_elim
    (λ e. row_here site p q tape other ticket at e h u place)
    (λ n.
    other_ticket site p q other ticket at (λ e. n (sym e)) u place
    ∙ h u place
    ∙ sym (other_ticket site p q tape ticket at (λ e. n (sym e)) u place))
    (cases_eq at ticket)

same_row_along : (site : Site) (queries : List Query) (tape other : Tape) (at : ℕ) → ((u place : ℕ) → other at u place ≡ tape at u place) → (u place : ℕ)
    → shift_file site queries other at u place ≡ shift_file site queries tape at u place
same_row_along site [] tape other at h u place = h u place
same_row_along site (query ∷ queries) tape other at h u place =
    same_row_along site queries (shift_query site query tape) (shift_query site query other) at (same_row site query.first query.second tape other query.ticket at h) u place

others_exchanged : (ticket : ℕ) (queries : List Query) → AllByRecursion (IsOther ticket) queries → AllByRecursion (IsOther ticket) (map exchanged queries)
others_exchanged ticket [] all = tt
others_exchanged ticket (query ∷ queries) all = (all.0, others_exchanged ticket queries all.1)

-- the first query's own words
back_at_first : ShapesLaw → (site : Site) (query : Query) (queries : List Query) (tape : Tape) → AllAreWorlds site (query ∷ queries) → UsesTicketsOnce (query ∷ queries) → (at u place : ℕ) → at ≡ query.ticket
    → shift_file site (map exchanged (query ∷ queries)) (shift_file site (query ∷ queries) tape) at u place ≡ tape at u place
back_at_first law site query queries tape all once at u place e =
    let next : Tape = shift_query site query tape in
    let last : Tape = shift_file site queries next in
    let ticket : ℕ = query.ticket in
    subst (λ n. shift_file site (map exchanged queries) (shift_query site (exchanged query) last) n u place ≡ tape n u place) (sym e)
    (left_alone site ticket (map exchanged queries) (shift_query site (exchanged query) last) (others_exchanged ticket queries once.0) u place
    ∙ same_row site query.second query.first next last ticket ticket (left_alone site ticket queries next once.0) u place
    ∙ way_back_law law site query.first query.second all.0 tape ticket ticket u place)

pub file_back_law : ShapesLaw → FileBackLaw
file_back_law law site [] tape all once at u place = refl
file_back_law law site (query ∷ queries) tape all once at u place =
    let next : Tape = shift_query site query tape in
    let last : Tape = shift_file site queries next in
    ⊎_elim
    (λ e. back_at_first law site query queries tape all once at u place e)
    (λ n.
    let other : query.ticket ≡ at → ⊥ = λ e. n (sym e) in
    same_row_along site (map exchanged queries) last (shift_query site (exchanged query) last) at (other_ticket site query.second query.first last query.ticket at other) u place
    ∙ file_back_law law site queries next all.1 once.1 at u place
    ∙ other_ticket site query.first query.second tape query.ticket at other u place)
    (cases_eq at query.ticket)
