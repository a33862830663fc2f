-- Where a query is not prepared over a union, it isn't over one that agrees with it either, and for the same cause.
use Rattle.std.proofs.Common.{◌≡◌, ◌<◌, ◌≤◌, ℕ, true, List, [], length, get_or, sym, ap, ◌∙◌, subst, arith, Result, Ok, Err}
use Rattle.std.specs.Prelude.{IfErr}
use Rattle.std.specs.Result.{IsErrAnd}
use Rattle.std.specs.List.{slice_get}
use Rattle.std.proofs.lemmas.List.Elements.{All-get_or}
use Rattle.pdn_base.specs.declared.rows_err.RowsErr.{RowsErr}
use Rattle.pdn_base.specs.declared.rows_err.RowsErr.TheVariants.{TooMany, PerValue, WrongType}
use Rattle.pdn_base.specs.declared.marks.Kind.{Kind}
use Rattle.pdn_base.specs.declared.site.Site.{Site}
use Rattle.pdn_base.specs.declared.site.Site.TheVariants.{A, B}
use Rattle.pdn_base.specs.declared.value.Value.{Value}
use Rattle.pdn_base.specs.Operators.{Rows}
use Rattle.pdn_schema.specs.Models.{TableModel, SchemaModel, table_of}
use Rattle.pdn_schema.specs.Rows.{HasKinds, IsValid, AreValid, IsRefused}
use Rattle.pdn_tree.specs.declared.node.Node.{Node}
use Rattle.pdn_tree.specs.Shapes.{shape}
use Rattle.pdn_site.specs.Engines.{EngineModel, IsFirstRefused}
use Rattle.pdn_site.specs.Meaning.{numbers_fit}
use Rattle.pdn_agree.specs.Agreement.{Union, Agree}
use Rattle.pdn_agree.proofs.Shapes.{shapes_are_equal}
use Rattle.pdn_broker.specs.declared.preparing.PrepareErr.{PrepareErr}
use Rattle.pdn_broker.specs.declared.preparing.PrepareErr.TheVariants as err
use Rattle.pdn_broker.specs.Prepared.{IsNotPrepared, IsRefusedAlike, AreEngines, AreNoEngines, AreTooLarge}
use Rattle.pdn_broker.proofs.PreparingLaws.{own_a, own_b}

valid_not_refused : (t : TableModel) (rows : Rows) (cause : RowsErr) → IsValid t rows → IsRefused t rows cause → ⊥
valid_not_refused t rows (WrongType row column) valid refused =
    refused.here.here (ap (λ (ks : List Kind). slice_get ks column) (All-get_or (HasKinds t.columns) rows row [] refused.within valid.kinds))
valid_not_refused t rows TooMany valid refused = omega (arith, refused.1, valid.few)
valid_not_refused t rows (PerValue column) valid refused =
    let over = refused.2 in
    omega (arith, over.over, valid.per column over.column over.is over.public over.number)

none_refused : (schema : SchemaModel) (tables : List Rows) (table : ℕ) (cause : RowsErr) → AreValid schema tables → IsFirstRefused schema tables table cause → ⊥
none_refused schema tables table cause valid refused = valid_not_refused (table_of schema table) (get_or tables table []) cause (valid.each table refused.within) refused.here

pub no_engines_alike : (schema : SchemaModel) (root : Node) (a b : List Rows) (e : PrepareErr) → AreNoEngines schema a b e → IsRefusedAlike schema root a b e
no_engines_alike schema root a b (err.Rows A table cause) h site other agree = absurd (none_refused schema a table cause agree.valid_first.a h)
no_engines_alike schema root a b (err.Rows B table cause) h site other agree = absurd (none_refused schema b table cause agree.valid_first.b h.1)
no_engines_alike schema root a b (err.TooLarge limit unit) h site other agree = absurd h
no_engines_alike schema root a b err.Memory h site other agree = tt

large_alike : (schema : SchemaModel) (root : Node) (a b : List Rows) (e : PrepareErr) → (shape schema root).sound ≡ true → numbers_fit root ≡ true → AreTooLarge schema root a b e → IsRefusedAlike schema root a b e
large_alike schema root a b (err.Rows at table cause) sound numbers h site other agree = absurd h
large_alike schema root a b (err.TooLarge limit unit) sound numbers h site other agree =
    (agree.valid_second.a, agree.valid_second.b, (shapes_are_equal site schema root (record { a = a; b = b }) other sound numbers agree).units ∙ h)
large_alike schema root a b err.Memory sound numbers h site other agree = tt

-- the units over both engines
pub too_large_alike : (schema : SchemaModel) (root : Node) (a b : List Rows) (ea eb : EngineModel) (e : PrepareErr) → (shape schema root).sound ≡ true → AreEngines schema root a b ea eb → AreTooLarge schema root ea.tables eb.tables e
    → IsRefusedAlike schema root a b e
too_large_alike schema root a b ea eb e sound en h =
    large_alike schema root a b e sound (subst (λ (x : EngineModel). numbers_fit x.root ≡ true) en.made_a en.is_a.numbers)
    (subst (λ (x : List Rows). AreTooLarge schema root x b e) (own_a en) (subst (λ (y : List Rows). AreTooLarge schema root ea.tables y e) (own_b en) h))

pub memory_alike : {X : Type 0} (schema : SchemaModel) (root : Node) (a b : List Rows) (result : Result X PrepareErr) → IsErrAnd result (λ e. e ≡ err.Memory) → IfErr result (IsRefusedAlike schema root a b)
memory_alike schema root a b (Ok x) h = absurd h
memory_alike schema root a b (Err e) h = subst (IsRefusedAlike schema root a b) (sym h) (λ site other agree. tt)

pub error_alike : {X : Type 0} (schema : SchemaModel) (root : Node) (a b : List Rows) (result : Result X PrepareErr) (cause : PrepareErr) → IsErrAnd result (λ e. e ≡ cause) → IsRefusedAlike schema root a b cause → IfErr result (IsRefusedAlike schema root a b)
error_alike schema root a b (Ok x) cause h alike = absurd h
error_alike schema root a b (Err e) cause h alike = subst (IsRefusedAlike schema root a b) (sym h) alike
