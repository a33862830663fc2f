-- The grammar of a file of queries, on tokens: a line of the grammar stands above each part that it is.
use Rattle.std.specs.Prelude.{ℕ, List, [], ◌∷◌, Bool, true, false, if◌then◌else◌, Option, Some, None}
use Rattle.pdn_base.specs.declared.cond.Op.{Op}
use Rattle.pdn_base.specs.declared.cond.Op.TheVariants as ops
use Rattle.pdn_sql.specs.declared.token.Token.{Token}
use Rattle.pdn_sql.specs.declared.token.Token.TheVariants.{Word, Number, Mark}
use Rattle.pdn_sql.specs.declared.token.Token.TheVariants as tokens
use Rattle.pdn_sql.specs.declared.token.Keyword.{Keyword}
use Rattle.pdn_sql.specs.declared.token.Keyword.TheVariants as words
use Rattle.pdn_sql.specs.declared.token.Symbol.{Symbol}
use Rattle.pdn_sql.specs.declared.token.Symbol.TheVariants as marks
use Rattle.pdn_sql.specs.declared.query.Name.{Name}
use Rattle.pdn_sql.specs.declared.query.Col.{Col}
use Rattle.pdn_sql.specs.declared.query.OrderCol.{OrderCol}
use Rattle.pdn_sql.specs.declared.query.OrderName.{OrderName}
use Rattle.pdn_sql.specs.declared.query.What.{What}
use Rattle.pdn_sql.specs.declared.query.What.TheVariants as whats
use Rattle.pdn_sql.specs.declared.query.Item.{Item}
use Rattle.pdn_sql.specs.declared.query.SqlTerm.{SqlTerm}
use Rattle.pdn_sql.specs.declared.query.SqlOperand.{SqlOperand}
use Rattle.pdn_sql.specs.declared.query.SqlOperand.TheVariants as operands
use Rattle.pdn_sql.specs.declared.query.SqlCmp.{SqlCmp}
use Rattle.pdn_sql.specs.declared.query.SqlClause.{SqlClause}
use Rattle.pdn_sql.specs.declared.query.Source.{Source}
use Rattle.pdn_sql.specs.declared.query.Block.{Block}
use Rattle.pdn_sql.specs.declared.query.Named.{Named}
use Rattle.pdn_sql.specs.declared.query.Query.{Query}
use Rattle.pdn_sql.specs.Part.{Part, one, both, option, either, many, made, after, before, is_some}

-- ---- one token

abbrev pub is_word : Keyword → Keyword → Bool
is_word words.Select words.Select = true
is_word words.Distinct words.Distinct = true
is_word words.From words.From = true
is_word words.As words.As = true
is_word words.Join words.Join = true
is_word words.Inner words.Inner = true
is_word words.On words.On = true
is_word words.Where words.Where = true
is_word words.And words.And = true
is_word words.Or words.Or = true
is_word words.Group words.Group = true
is_word words.By words.By = true
is_word words.Having words.Having = true
is_word words.Order words.Order = true
is_word words.Limit words.Limit = true
is_word words.With words.With = true
is_word words.Count words.Count = true
is_word words.RowNumber words.RowNumber = true
is_word words.Over words.Over = true
is_word words.Partition words.Partition = true
is_word words.Asc words.Asc = true
is_word words.Desc words.Desc = true
is_word a b = false

abbrev pub pick_word : Keyword → Token → Option (Unit {0})
pick_word k (Word found) = if is_word found k then Some tt else None
pick_word k other = None

unfoldable pub word_part : Keyword → Part (Unit {0})
word_part k = one (λ p. pick_word k p.token)

abbrev pub is_mark : Symbol → Symbol → Bool
is_mark marks.Open marks.Open = true
is_mark marks.Close marks.Close = true
is_mark marks.Comma marks.Comma = true
is_mark marks.Dot marks.Dot = true
is_mark marks.Semicolon marks.Semicolon = true
is_mark marks.Star marks.Star = true
is_mark marks.Plus marks.Plus = true
is_mark marks.Equal marks.Equal = true
is_mark marks.Unequal marks.Unequal = true
is_mark marks.Less marks.Less = true
is_mark marks.AtMost marks.AtMost = true
is_mark marks.More marks.More = true
is_mark marks.AtLeast marks.AtLeast = true
is_mark a b = false

abbrev pub pick_mark : Symbol → Token → Option (Unit {0})
pick_mark m (Mark found) = if is_mark found m then Some tt else None
pick_mark m other = None

unfoldable pub mark_part : Symbol → Part (Unit {0})
mark_part m = one (λ p. pick_mark m p.token)

abbrev pub pick_number : Token → Option ℕ
pick_number (Number n) = Some n
pick_number other = None

unfoldable pub number : Part ℕ
number = one (λ p. pick_number p.token)

abbrev pub pick_code : Token → Option ℕ
pick_code (tokens.Code c) = Some c
pick_code other = None

-- a code is its number
unfoldable pub code : Part ℕ
code = one (λ p. pick_code p.token)

-- op = = <> < <= > >=
abbrev pub pick_op : Token → Option Op
pick_op (Mark marks.Equal) = Some ops.Eq
pick_op (Mark marks.Unequal) = Some ops.Ne
pick_op (Mark marks.Less) = Some ops.Lt
pick_op (Mark marks.AtMost) = Some ops.Le
pick_op (Mark marks.More) = Some ops.Gt
pick_op (Mark marks.AtLeast) = Some ops.Ge
pick_op other = None

unfoldable pub op : Part Op
op = one (λ p. pick_op p.token)

-- a name carries its place
abbrev pub pick_name : ℕ → Token → Option Name
pick_name place (tokens.Name text) = Some (record { text = text; at = place })
pick_name place other = None

unfoldable pub name : Part Name
name = one (λ p. pick_name p.at p.token)

-- ---- lists of parts

-- x {more}
abbrev pub row : {A : Type 0} → Part A → Part A → Part (List A)
row x more = made (λ l. l.0 ∷ l.1) (both x (many more))

-- the list that may be left out
abbrev pub listed : {A : Type 0} → Option (List A) → List A
listed None = []
listed (Some xs) = xs

-- ( x )
abbrev pub parens : {A : Type 0} → Part A → Part A
parens x = after (mark_part marks.Open) (before x (mark_part marks.Close))

-- ---- columns and conditions

-- . name
unfoldable pub dot_name : Part Name
dot_name = after (mark_part marks.Dot) name

abbrev pub column_of : Name → Option Name → Col
column_of x None = record { of = None; name = x }
column_of x (Some y) = record { of = Some x; name = y }

-- col = name [. name]
unfoldable pub col : Part Col
col = made (λ x. column_of x.0 x.1) (both name (option dot_name))

-- , col
unfoldable pub next_col : Part Col
next_col = after (mark_part marks.Comma) col

-- col {, col}
unfoldable pub cols : Part (List Col)
cols = row col next_col

-- [+ number]
unfoldable pub plus : Part (Option ℕ)
plus = option (after (mark_part marks.Plus) number)

-- term = col [+ number]
unfoldable pub term : Part SqlTerm
term = made (λ x. record { col = x.0; plus = x.1 }) (both col plus)

-- operand = term | number | code
unfoldable pub operand : Part SqlOperand
operand = either (made operands.Term term) (either (made operands.Int number) (made operands.Code code))

-- cmp = term op operand
unfoldable pub cmp : Part SqlCmp
cmp = made (λ x. record { left = x.0; op = x.1.0; right = x.1.1 }) (both term (both op operand))

-- OR cmp
unfoldable pub next_cmp : Part SqlCmp
next_cmp = after (word_part words.Or) cmp

-- cmp {OR cmp}
unfoldable pub cmps : Part (List SqlCmp)
cmps = row cmp next_cmp

-- ( cmp {OR cmp} )
unfoldable pub choice : Part (List SqlCmp)
choice = parens cmps

abbrev pub one_of : List SqlCmp → SqlClause
one_of xs = record { any = xs }

abbrev pub alone : SqlCmp → SqlClause
alone x = one_of (x ∷ [])

-- clause = cmp | ( cmp {OR cmp} )
unfoldable pub clause : Part SqlClause
clause = either (made alone cmp) (made one_of choice)

-- AND clause
unfoldable pub next_clause : Part SqlClause
next_clause = after (word_part words.And) clause

-- cond = clause {AND clause}
unfoldable pub cond : Part (List SqlClause)
cond = row clause next_clause

-- ---- items

abbrev pub is_down : Option Bool → Bool
is_down None = false
is_down (Some down) = down

-- [ASC|DESC]
unfoldable pub direction : Part Bool
direction = made is_down (option (either (made (λ x. false) (word_part words.Asc)) (made (λ x. true) (word_part words.Desc))))

-- col [ASC|DESC]
unfoldable pub order_col : Part OrderCol
order_col = made (λ x. record { col = x.0; down = x.1 }) (both col direction)

-- , col [ASC|DESC]
unfoldable pub next_order_col : Part OrderCol
next_order_col = after (mark_part marks.Comma) order_col

-- col [ASC|DESC] {, col [ASC|DESC]}
unfoldable pub order_cols : Part (List OrderCol)
order_cols = row order_col next_order_col

-- [PARTITION BY col {, col}]
unfoldable pub partition : Part (List Col)
partition = made listed (option (after (word_part words.Partition) (after (word_part words.By) cols)))

-- [ORDER BY col [ASC|DESC] {, col [ASC|DESC]}]
unfoldable pub window_order : Part (List OrderCol)
window_order = made listed (option (after (word_part words.Order) (after (word_part words.By) order_cols)))

-- ( [PARTITION BY ..] [ORDER BY ..] )
unfoldable pub window : Part What
window = made (λ x. whats.Number x.0 x.1) (parens (both partition window_order))

-- ROW_NUMBER ( ) OVER ( [PARTITION BY ..] [ORDER BY ..] )
unfoldable pub row_number : Part What
row_number = after (word_part words.RowNumber) (after (mark_part marks.Open) (after (mark_part marks.Close) (after (word_part words.Over) window)))

-- COUNT ( * )
unfoldable pub count : Part (Unit {0})
count = after (word_part words.Count) (parens (mark_part marks.Star))

-- what = col | COUNT ( * ) | ROW_NUMBER ( ) OVER ( .. )
unfoldable pub what : Part What
what = either (made whats.Column col) (either (made (λ x. whats.Count) count) row_number)

-- [AS name]
unfoldable pub as_name : Part (Option Name)
as_name = option (after (word_part words.As) name)

-- item = what [AS name]
unfoldable pub item : Part Item
item = made (λ x. record { what = x.0; alias = x.1 }) (both what as_name)

-- , item
unfoldable pub next_item : Part Item
next_item = after (mark_part marks.Comma) item

-- item {, item}
unfoldable pub items : Part (List Item)
items = row item next_item

-- ---- sources

-- [[AS] name]
unfoldable pub source_name : Part (Option Name)
source_name = option (after (option (word_part words.As)) name)

-- source = name [[AS] name]
unfoldable pub source : Part Source
source = made (λ x. record { name = x.0; alias = x.1; on = [] }) (both name source_name)

abbrev pub joined_on : Source → List SqlClause → Source
joined_on s on = record { name = s.name; alias = s.alias; on = on }

-- JOIN source ON cond
unfoldable pub joined : Part Source
joined = made (λ x. joined_on x.0 x.1) (after (word_part words.Join) (both source (after (word_part words.On) cond)))

-- [INNER] JOIN source ON cond
unfoldable pub join : Part Source
join = after (option (word_part words.Inner)) joined

-- source {[INNER] JOIN source ON cond}
unfoldable pub sources : Part (List Source)
sources = row source join

-- ---- blocks

-- [DISTINCT]
unfoldable pub distinct : Part Bool
distinct = made is_some (option (word_part words.Distinct))

-- [WHERE cond]
unfoldable pub filter : Part (List SqlClause)
filter = made listed (option (after (word_part words.Where) cond))

-- [HAVING COUNT ( * ) >= number]
unfoldable pub having : Part (Option ℕ)
having = option (after (word_part words.Having) (after count (after (mark_part marks.AtLeast) number)))

abbrev pub grouped : Option (List Col × Option ℕ) → List Col × Option ℕ
grouped None = ([], None)
grouped (Some x) = x

-- [GROUP BY col {, col} [HAVING COUNT ( * ) >= number]]
unfoldable pub group : Part (List Col × Option ℕ)
group = made grouped (option (after (word_part words.Group) (after (word_part words.By) (both cols having))))

-- name [ASC|DESC]
unfoldable pub order_name : Part OrderName
order_name = made (λ x. record { name = x.0; down = x.1 }) (both name direction)

-- , name [ASC|DESC]
unfoldable pub next_order_name : Part OrderName
next_order_name = after (mark_part marks.Comma) order_name

-- name [ASC|DESC] {, name [ASC|DESC]}
unfoldable pub order_names : Part (List OrderName)
order_names = row order_name next_order_name

-- [ORDER BY name [ASC|DESC] {, name [ASC|DESC]}]
unfoldable pub order : Part (List OrderName)
order = made listed (option (after (word_part words.Order) (after (word_part words.By) order_names)))

-- [LIMIT number]
unfoldable pub limit : Part (Option ℕ)
limit = option (after (word_part words.Limit) number)

-- block = SELECT [DISTINCT] item {, item} FROM source {..} [WHERE ..] [GROUP BY ..] [ORDER BY ..] [LIMIT ..]
unfoldable pub block : Part Block
block = made (λ x. record { distinct = x.0; items = x.1.0; sources = x.1.1.0; filter = x.1.1.1.0; group = x.1.1.1.1.0.0; having = x.1.1.1.1.0.1; order = x.1.1.1.1.1.0; limit = x.1.1.1.1.1.1 })
    (after (word_part words.Select) (both distinct (both items (after (word_part words.From) (both sources (both filter (both group (both order limit))))))))

-- ---- queries

-- name AS ( block )
unfoldable pub named : Part Named
named = made (λ x. record { name = x.0; block = x.1 }) (both name (after (word_part words.As) (parens block)))

-- , name AS ( block )
unfoldable pub next_named : Part Named
next_named = after (mark_part marks.Comma) named

-- name AS ( block ) {, name AS ( block )}
unfoldable pub nameds : Part (List Named)
nameds = row named next_named

-- [WITH name AS ( block ) {, name AS ( block )}]
unfoldable pub withs : Part (List Named)
withs = made listed (option (after (word_part words.With) nameds))

-- query = [WITH ..] block ;
unfoldable pub query : Part Query
query = made (λ x. record { with = x.0; main = x.1 }) (both withs (before block (mark_part marks.Semicolon)))

-- file = query {query}
unfoldable pub file : Part (List Query)
file = row query query
