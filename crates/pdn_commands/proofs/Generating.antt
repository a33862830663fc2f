-- The causes of `gen`, and what its Done comes with.
use Rattle.std.proofs.Common.{◌≡◌, ℕ, ◌<◌, ◌^◌, ◌++◌, List, length, Some, Option, inl, inr, refl}
use Rattle.pdn_base.specs.declared.status.Who.{Who}
use Rattle.pdn_sql.specs.declared.query.Query.{Query}
use Rattle.pdn_desk_keeper.specs.Desks.{DeskHeld}
use Rattle.pdn_network.specs.Network.{network_schema, tables_a, tables_b}
use Rattle.pdn_network.specs.Standing.{standing}
use Rattle.pdn_query.specs.Questions.{Told, IsNext, with_desk, with_taken}
use Rattle.pdn_query.specs.Script.{Script}
use Rattle.pdn_query.specs.Walk.{Refusals, Texts}
use Rattle.pdn_commands.specs.Commands.{Generate, task_of}
use Rattle.pdn_commands.specs.Generating.{short_step, generate_script}
use Rattle.pdn_commands.specs.Generated.{AskedNetwork, network_units, IsSmall, IsShort, IsGenerated}
use Rattle.pdn_commands.specs.Running.{IsReached, with_given}
use Rattle.pdn_commands.proofs.Causes.{Refused}
use Rattle.pdn_commands.proofs.Refusing.{in_large, in_given, in_numbered, all_given}
use Rattle.pdn_commands.proofs.Saying.{text_large, text_given, numbered_text}

module _ (words : List (List ℕ)) (seed patients workers : ℕ) (e : task_of words ≡ Some (Generate seed patients workers)) where
  abbrev network : AskedNetwork words
  network = record { seed = seed; patients = patients; workers = workers; asked = e }

  abbrev step : ℕ → Query → Script → Script
  step = short_step network_schema (tables_a seed patients) (tables_b seed patients) seed patients

  pub generate_caused : (rose : Who → Type 0) (told : Told) → Refusals told (Refused rose told words) (generate_script seed patients)
  generate_caused rose told = in_numbered told (Refused rose told words) (IsSmall seed patients) standing step (λ number before later query next stands taken left more.
      let now : Told = with_desk told (with_given (length before) told.desk) in
      let reached : IsReached (IsSmall seed patients) told.desk standing query = record { before = before; later = later; stands = stands; taken = taken; left = left } in
      in_large now (Refused rose told words) _ (network_units seed patients query) (λ limit unit passes. inr (record { network = network; query = query; reached = reached; passes = passes }))
      (λ units fits. in_given now (Refused rose told words) _
      (λ ticket most is. inr (record { network = network; query = query; reached = reached; small = (units, fits); spent = all_given told.desk (length before) ticket most is }))
      (λ ticket few is. more (units, fits) ticket few is)))

  short_said : (told : Told) (desk : Option DeskHeld) (Q : List ℕ → Told → Type 0) (number : ℕ) (query : Query) (next : Script) →
      ((ticket : ℕ) (text : List ℕ) → ticket < 2 ^ 40 → IsNext desk ticket → IsShort seed patients number ticket query text → Texts (with_taken (with_desk told desk)) (λ more now. Q (text ++ more) now) next) →
      Texts (with_desk told desk) Q (step number query next)
  short_said told desk Q number query next more = let now : Told = with_desk told desk in
      text_large now Q _ (network_units seed patients query) (λ units fits. text_given now Q _ (λ ticket few is. more ticket _ few is ((units, fits), refl)))

  pub generate_text : (told : Told) → Texts told (IsGenerated told words) (generate_script seed patients)
  generate_text told = numbered_text told (IsShort seed patients) step (short_said told) (IsGenerated told words) standing
      (λ text answers. record { network = network; answers = answers; given = refl })
