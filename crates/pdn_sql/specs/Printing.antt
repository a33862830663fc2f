-- The printed form of a query: its tokens, and their text.
use Rattle.std.specs.Prelude.{codes, ℕ, List, [], ◌∷◌, ◌++◌, Bool, true, false, ◌||◌, ◌&&◌, not, if◌then◌else◌, Option, Some, None}
use Rattle.std.specs.Fmt.{decimal}
use Rattle.pdn_base.specs.Codes.{code_text}
use Rattle.pdn_base.specs.declared.cond.Op.{Op}
use Rattle.pdn_base.specs.declared.cond.Op.TheVariants as ops
use Rattle.pdn_sql.specs.declared.token.Token.{Token}
use Rattle.pdn_sql.specs.declared.token.Token.TheVariants.{Word, Number, Mark}
use Rattle.pdn_sql.specs.declared.token.Token.TheVariants as tokens
use Rattle.pdn_sql.specs.declared.token.Keyword.{Keyword}
use Rattle.pdn_sql.specs.declared.token.Keyword.TheVariants as words
use Rattle.pdn_sql.specs.declared.token.Symbol.{Symbol}
use Rattle.pdn_sql.specs.declared.token.Symbol.TheVariants as marks
use Rattle.pdn_sql.specs.declared.query.Name.{Name}
use Rattle.pdn_sql.specs.declared.query.Col.{Col}
use Rattle.pdn_sql.specs.declared.query.OrderCol.{OrderCol}
use Rattle.pdn_sql.specs.declared.query.OrderName.{OrderName}
use Rattle.pdn_sql.specs.declared.query.What.{What}
use Rattle.pdn_sql.specs.declared.query.What.TheVariants as whats
use Rattle.pdn_sql.specs.declared.query.Item.{Item}
use Rattle.pdn_sql.specs.declared.query.SqlTerm.{SqlTerm}
use Rattle.pdn_sql.specs.declared.query.SqlOperand.{SqlOperand}
use Rattle.pdn_sql.specs.declared.query.SqlOperand.TheVariants as operands
use Rattle.pdn_sql.specs.declared.query.SqlCmp.{SqlCmp}
use Rattle.pdn_sql.specs.declared.query.SqlClause.{SqlClause}
use Rattle.pdn_sql.specs.declared.query.Source.{Source}
use Rattle.pdn_sql.specs.declared.query.Block.{Block}
use Rattle.pdn_sql.specs.declared.query.Named.{Named}
use Rattle.pdn_sql.specs.declared.query.Query.{Query}

-- ---- lists

abbrev pub each : {A : Type 0} → (A → List Token) → List A → List Token
each f [] = []
each f (x ∷ xs) = f x ++ each f xs

-- with a token between two
abbrev pub between : {A : Type 0} → Token → (A → List Token) → List A → List Token
between sep f [] = []
between sep f (x ∷ xs) = f x ++ each (λ y. sep ∷ f y) xs

-- a part that is left out where there is nothing to say
abbrev pub unless_empty : {A : Type 0} → List Token → List A → List Token → List Token
unless_empty front [] ts = []
unless_empty front (x ∷ xs) ts = front ++ ts

abbrev pub maybe : {A : Type 0} → (A → List Token) → Option A → List Token
maybe f None = []
maybe f (Some x) = f x

-- ---- the tokens of a query

abbrev pub name_tokens : Name → List Token
name_tokens n = tokens.Name n.text ∷ []

abbrev pub source_of : Name → List Token
source_of n = tokens.Name n.text ∷ Mark marks.Dot ∷ []

unfoldable pub col_tokens : Col → List Token
col_tokens c = maybe source_of c.of ++ name_tokens c.name

abbrev pub plus_tokens : ℕ → List Token
plus_tokens n = Mark marks.Plus ∷ Number n ∷ []

unfoldable pub term_tokens : SqlTerm → List Token
term_tokens t = col_tokens t.col ++ maybe plus_tokens t.plus

unfoldable pub operand_tokens : SqlOperand → List Token
operand_tokens (operands.Term t) = term_tokens t
operand_tokens (operands.Int n) = Number n ∷ []
operand_tokens (operands.Code c) = tokens.Code c ∷ []

abbrev pub op_mark : Op → Symbol
op_mark ops.Eq = marks.Equal
op_mark ops.Ne = marks.Unequal
op_mark ops.Lt = marks.Less
op_mark ops.Le = marks.AtMost
op_mark ops.Gt = marks.More
op_mark ops.Ge = marks.AtLeast

unfoldable pub cmp_tokens : SqlCmp → List Token
cmp_tokens c = term_tokens c.left ++ Mark (op_mark c.op) ∷ operand_tokens c.right

-- one comparison stands without parentheses
unfoldable pub clause_tokens : List SqlCmp → List Token
clause_tokens [] = []
clause_tokens (c ∷ []) = cmp_tokens c
clause_tokens (c ∷ d ∷ cs) = Mark marks.Open ∷ between (Word words.Or) cmp_tokens (c ∷ d ∷ cs) ++ Mark marks.Close ∷ []

abbrev pub cond_tokens : List SqlClause → List Token
cond_tokens cs = between (Word words.And) (λ c. clause_tokens c.any) cs

abbrev pub down_tokens : Bool → List Token
down_tokens false = []
down_tokens true = Word words.Desc ∷ []

unfoldable pub order_col_tokens : OrderCol → List Token
order_col_tokens o = col_tokens o.col ++ down_tokens o.down

unfoldable pub partition_tokens : List Col → List Token
partition_tokens cs = unless_empty (Word words.Partition ∷ Word words.By ∷ []) cs (between (Mark marks.Comma) col_tokens cs)

unfoldable pub window_order_tokens : List OrderCol → List Token
window_order_tokens os = unless_empty (Word words.Order ∷ Word words.By ∷ []) os (between (Mark marks.Comma) order_col_tokens os)

unfoldable pub what_tokens : What → List Token
what_tokens (whats.Column c) = col_tokens c
what_tokens whats.Count = Word words.Count ∷ Mark marks.Open ∷ Mark marks.Star ∷ Mark marks.Close ∷ []
what_tokens (whats.Number partition order) =
    Word words.RowNumber ∷ Mark marks.Open ∷ Mark marks.Close ∷ Word words.Over ∷ Mark marks.Open ∷ partition_tokens partition ++ window_order_tokens order ++ Mark marks.Close ∷ []

abbrev pub alias_tokens : Name → List Token
alias_tokens n = Word words.As ∷ name_tokens n

unfoldable pub item_tokens : Item → List Token
item_tokens i = what_tokens i.what ++ maybe alias_tokens i.alias

unfoldable pub source_tokens : Source → List Token
source_tokens s = name_tokens s.name ++ maybe alias_tokens s.alias

unfoldable pub join_tokens : Source → List Token
join_tokens s = Word words.Join ∷ source_tokens s ++ Word words.On ∷ cond_tokens s.on

-- the first source has no condition
unfoldable pub sources_tokens : List Source → List Token
sources_tokens [] = []
sources_tokens (s ∷ ss) = source_tokens s ++ each join_tokens ss

abbrev pub distinct_tokens : Bool → List Token
distinct_tokens false = []
distinct_tokens true = Word words.Distinct ∷ []

unfoldable pub filter_tokens : List SqlClause → List Token
filter_tokens cs = unless_empty (Word words.Where ∷ []) cs (cond_tokens cs)

abbrev pub having_tokens : ℕ → List Token
having_tokens n = Word words.Having ∷ Word words.Count ∷ Mark marks.Open ∷ Mark marks.Star ∷ Mark marks.Close ∷ Mark marks.AtLeast ∷ Number n ∷ []

unfoldable pub group_tokens : List Col → Option ℕ → List Token
group_tokens cs having = unless_empty (Word words.Group ∷ Word words.By ∷ []) cs (between (Mark marks.Comma) col_tokens cs ++ maybe having_tokens having)

unfoldable pub order_name_tokens : OrderName → List Token
order_name_tokens o = name_tokens o.name ++ down_tokens o.down

unfoldable pub order_tokens : List OrderName → List Token
order_tokens os = unless_empty (Word words.Order ∷ Word words.By ∷ []) os (between (Mark marks.Comma) order_name_tokens os)

abbrev pub limit_tokens : ℕ → List Token
limit_tokens n = Word words.Limit ∷ Number n ∷ []

unfoldable pub block_tokens : Block → List Token
block_tokens b =
    Word words.Select ∷ distinct_tokens b.distinct ++ between (Mark marks.Comma) item_tokens b.items ++ Word words.From ∷ sources_tokens b.sources
    ++ filter_tokens b.filter ++ group_tokens b.group b.having ++ order_tokens b.order ++ maybe limit_tokens b.limit

unfoldable pub named_tokens : Named → List Token
named_tokens n = name_tokens n.name ++ Word words.As ∷ Mark marks.Open ∷ block_tokens n.block ++ Mark marks.Close ∷ []

unfoldable pub with_tokens : List Named → List Token
with_tokens ns = unless_empty (Word words.With ∷ []) ns (between (Mark marks.Comma) named_tokens ns)

unfoldable pub query_tokens : Query → List Token
query_tokens q = with_tokens q.with ++ block_tokens q.main ++ Mark marks.Semicolon ∷ []

-- ---- their text

abbrev pub word_text : Keyword → List ℕ
word_text words.Select = codes "SELECT"
word_text words.Distinct = codes "DISTINCT"
word_text words.From = codes "FROM"
word_text words.As = codes "AS"
word_text words.Join = codes "JOIN"
word_text words.Inner = codes "INNER"
word_text words.On = codes "ON"
word_text words.Where = codes "WHERE"
word_text words.And = codes "AND"
word_text words.Or = codes "OR"
word_text words.Group = codes "GROUP"
word_text words.By = codes "BY"
word_text words.Having = codes "HAVING"
word_text words.Order = codes "ORDER"
word_text words.Limit = codes "LIMIT"
word_text words.With = codes "WITH"
word_text words.Count = codes "COUNT"
word_text words.RowNumber = codes "ROW_NUMBER"
word_text words.Over = codes "OVER"
word_text words.Partition = codes "PARTITION"
word_text words.Asc = codes "ASC"
word_text words.Desc = codes "DESC"

abbrev pub mark_text : Symbol → List ℕ
mark_text marks.Open = codes "("
mark_text marks.Close = codes ")"
mark_text marks.Comma = codes ","
mark_text marks.Dot = codes "."
mark_text marks.Semicolon = codes ";"
mark_text marks.Star = codes "*"
mark_text marks.Plus = codes "+"
mark_text marks.Equal = codes "="
mark_text marks.Unequal = codes "<>"
mark_text marks.Less = codes "<"
mark_text marks.AtMost = codes "<="
mark_text marks.More = codes ">"
mark_text marks.AtLeast = codes ">="

abbrev pub token_text : Token → List ℕ
token_text (Word k) = word_text k
token_text (tokens.Name text) = text
token_text (Number n) = decimal n
token_text (tokens.Code c) = 39 ∷ code_text c ++ 39 ∷ []
token_text (Mark m) = mark_text m
token_text (tokens.Bad kind) = []

-- no blank stands before these
abbrev pub is_tight : Token → Bool
is_tight (Mark marks.Dot) = true
is_tight (Mark marks.Comma) = true
is_tight (Mark marks.Semicolon) = true
is_tight (Mark marks.Close) = true
is_tight t = false

-- nor behind these
abbrev pub is_tight_behind : Token → Bool
is_tight_behind (Mark marks.Dot) = true
is_tight_behind (Mark marks.Open) = true
is_tight_behind t = false

-- nor between these and an opening parenthesis
abbrev pub is_call : Token → Bool
is_call (Word words.Count) = true
is_call (Word words.RowNumber) = true
is_call t = false

abbrev pub is_open : Token → Bool
is_open (Mark marks.Open) = true
is_open t = false

abbrev pub is_apart : Token → Token → Bool
is_apart a b = not (is_tight_behind a || is_tight b || (is_open b && is_call a))

abbrev pub gap : Token → Token → List ℕ
gap a b = if is_apart a b then 32 ∷ [] else []

unfoldable pub text_behind : Token → List Token → List ℕ
text_behind a [] = []
text_behind a (b ∷ ts) = gap a b ++ token_text b ++ text_behind b ts

unfoldable pub text_of : List Token → List ℕ
text_of [] = []
text_of (t ∷ ts) = token_text t ++ text_behind t ts

-- the printed form of a query
abbrev pub query_text : Query → List ℕ
query_text q = text_of (query_tokens q)
