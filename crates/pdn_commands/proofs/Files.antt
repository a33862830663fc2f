-- Going along the files of a folder.
use Rattle.std.proofs.Common.{◌≡◌, ℕ, ◌+◌, ◌≤◌, ◌<◌, ◌++◌, List, [], ◌∷◌, length, get_or, Option, min, arith, ap, subst, sym, ◌∙◌}
use Rattle.std.specs.List.{zip}
use Rattle.std.proofs.lemmas.Slice.Zip.{get_or-zip, length-zip}
use Rattle.pdn_base.specs.Operators.{Rows}
use Rattle.pdn_schema.specs.Models.{TableModel, no_table}
use Rattle.pdn_query.specs.Each.{each}
use Rattle.pdn_query.specs.Script.{Script}
use Rattle.pdn_query.specs.Walk.{End, Along, Leads}
use Rattle.pdn_query.specs.World.{WorldModel}
use Rattle.pdn_query.proofs.Steps.{Stepped, Stepped-next, Stepped-stopped, Stepped-all}
use Rattle.pdn_commands.specs.Twinning.{importing_from, importing_file}

module _ (ts : List TableModel) (texts : List (Option (List ℕ))) (same : length texts ≡ length ts) where
  long : length (zip ts texts) ≡ length ts
  long = let e : min (length ts) (length texts) ≡ length ts = omega (arith, same) in length-zip ts texts ∙ e

  module _ {w now : WorldModel} {at : ℕ} {given : List (Option Rows)} where
    module _ (within : at < length ts) (so_far : Stepped w now importing_file (zip ts texts) at given) where
      file : (other : Option (List ℕ)) → get_or (zip ts texts) at (no_table, other) ≡ (get_or ts at no_table, get_or texts at other)
      file other = let there : at < length texts = omega (arith, within, same) in get_or-zip ts texts at (no_table, other) within there

      inside : at < length (zip ts texts)
      inside = let e = long in omega (arith, within, e)

      module _ (text other : Option (List ℕ)) (is : text ≡ get_or texts at other) where
        here : (get_or ts at no_table, text) ≡ get_or (zip ts texts) at (no_table, other)
        here = ap (λ (t : Option (List ℕ)). (get_or ts at no_table, t)) is ∙ sym (file other)

        pub file_next : (rows : Option Rows) → ((next : Option Rows → Script) → Leads now now (importing_from (get_or ts at no_table) next text) (next rows)) →
            Stepped w now importing_file (zip ts texts) (at + 1) (given ++ rows ∷ [])
        file_next rows takes = Stepped-next so_far (no_table, other) rows inside (λ next. subst (λ (f : TableModel × Option (List ℕ)). Leads now now (importing_file f next) (next rows)) here (takes next))

        pub file_stopped : (end : End) (next : List (Option Rows) → Script) → ((next : Option Rows → Script) → Along now now (importing_from (get_or ts at no_table) next text) end) →
            Along w now (each importing_file (zip ts texts) next) end
        file_stopped end next stops = Stepped-stopped so_far (no_table, other) end next inside (λ next. subst (λ (f : TableModel × Option (List ℕ)). Along now now (importing_file f next) end) here (stops next))

    pub all_files : Stepped w now importing_file (zip ts texts) at given → (next : List (Option Rows) → Script) → length ts ≤ at → Leads w now (each importing_file (zip ts texts) next) (next given)
    all_files so_far next l = let e = long in let past : length (zip ts texts) ≤ at = omega (arith, l, e) in Stepped-all so_far next past
