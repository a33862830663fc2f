-- The same query, but for the places of its names.
use Rattle.std.specs.Prelude.{◌≡◌, ◌⊎◌, List, [], ◌∷◌, Option, Some, None}
use Rattle.pdn_sql.specs.declared.token.Placed.{Placed}
use Rattle.pdn_sql.specs.declared.token.Token.{Token}
use Rattle.pdn_sql.specs.declared.query.Name.{Name}
use Rattle.pdn_sql.specs.declared.query.Col.{Col}
use Rattle.pdn_sql.specs.declared.query.OrderCol.{OrderCol}
use Rattle.pdn_sql.specs.declared.query.OrderName.{OrderName}
use Rattle.pdn_sql.specs.declared.query.What.{What}
use Rattle.pdn_sql.specs.declared.query.What.TheVariants as whats
use Rattle.pdn_sql.specs.declared.query.Item.{Item}
use Rattle.pdn_sql.specs.declared.query.SqlTerm.{SqlTerm}
use Rattle.pdn_sql.specs.declared.query.SqlOperand.{SqlOperand}
use Rattle.pdn_sql.specs.declared.query.SqlOperand.TheVariants as operands
use Rattle.pdn_sql.specs.declared.query.SqlCmp.{SqlCmp}
use Rattle.pdn_sql.specs.declared.query.SqlClause.{SqlClause}
use Rattle.pdn_sql.specs.declared.query.Source.{Source}
use Rattle.pdn_sql.specs.declared.query.Block.{Block}
use Rattle.pdn_sql.specs.declared.query.Named.{Named}
use Rattle.pdn_sql.specs.declared.query.Query.{Query}

-- tokens without their places
abbrev pub bare : List Placed → List Token
bare [] = []
bare (p ∷ ps) = p.token ∷ bare ps

abbrev pub same_option : {A : Type 0} → (A → A → Type 0) → Option A → Option A → Type 0
same_option s None None = Unit {0}
same_option s (Some x) (Some y) = s x y
same_option s x y = ⊥

abbrev pub same_all : {A : Type 0} → (A → A → Type 0) → List A → List A → Type 0
same_all s [] [] = Unit {0}
same_all s (x ∷ xs) (y ∷ ys) = s x y × same_all s xs ys
same_all s xs ys = ⊥

abbrev pub SameName : Name → Name → Type 0
SameName x y = x.text ≡ y.text

abbrev pub SameCol : Col → Col → Type 0
SameCol x y = same_option SameName x.of y.of × SameName x.name y.name

abbrev pub SameOrderCol : OrderCol → OrderCol → Type 0
SameOrderCol x y = SameCol x.col y.col × (x.down ≡ y.down)

abbrev pub SameOrderName : OrderName → OrderName → Type 0
SameOrderName x y = SameName x.name y.name × (x.down ≡ y.down)

abbrev pub SameWhat : What → What → Type 0
SameWhat (whats.Column c) (whats.Column d) = SameCol c d
SameWhat whats.Count whats.Count = Unit {0}
SameWhat (whats.Number p o) (whats.Number q r) = same_all SameCol p q × same_all SameOrderCol o r
SameWhat x y = ⊥

abbrev pub SameItem : Item → Item → Type 0
SameItem x y = SameWhat x.what y.what × same_option SameName x.alias y.alias

abbrev pub SameTerm : SqlTerm → SqlTerm → Type 0
SameTerm x y = SameCol x.col y.col × (x.plus ≡ y.plus)

abbrev pub SameOperand : SqlOperand → SqlOperand → Type 0
SameOperand (operands.Term t) (operands.Term u) = SameTerm t u
SameOperand (operands.Int m) (operands.Int n) = m ≡ n
SameOperand (operands.Code c) (operands.Code d) = c ≡ d
SameOperand x y = ⊥

abbrev pub SameCmp : SqlCmp → SqlCmp → Type 0
SameCmp x y = SameTerm x.left y.left × (x.op ≡ y.op) × SameOperand x.right y.right

abbrev pub SameClause : SqlClause → SqlClause → Type 0
SameClause x y = same_all SameCmp x.any y.any

abbrev pub SameSource : Source → Source → Type 0
SameSource x y = SameName x.name y.name × same_option SameName x.alias y.alias × same_all SameClause x.on y.on

abbrev pub SameBlock : Block → Block → Type 0
SameBlock x y =
    (x.distinct ≡ y.distinct) × same_all SameItem x.items y.items × same_all SameSource x.sources y.sources × same_all SameClause x.filter y.filter
    × (same_all SameCol x.group y.group × (x.having ≡ y.having)) × same_all SameOrderName x.order y.order × (x.limit ≡ y.limit)

abbrev pub SameNamed : Named → Named → Type 0
SameNamed x y = SameName x.name y.name × SameBlock x.block y.block

abbrev pub SameQuery : Query → Query → Type 0
SameQuery x y = same_all SameNamed x.with y.with × SameBlock x.main y.main

-- one of these queries
abbrev pub Member : Query → List Query → Type 0
Member q [] = ⊥
Member q (x ∷ xs) = (x ≡ q) ⊎ Member q xs
