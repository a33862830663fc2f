-- What a line says by its words.
use Rattle.std.specs.Prelude.{codes, ℕ, ◌+◌, ◌-◌, ◌*◌, List, [], ◌∷◌, length, Bool, ◌&&◌, if◌then◌else◌, nat_lt, nat_le, Option, Some, None}
use Rattle.std.specs.Str.{bytes_eq, all_ascii_digits}
use Rattle.pdn_base.specs.declared.marks.Kind.{Kind}
use Rattle.pdn_base.specs.declared.marks.Kind.TheVariants as kinds
use Rattle.pdn_base.specs.declared.marks.Label.{Label}
use Rattle.pdn_base.specs.declared.marks.Label.TheVariants as labels
use Rattle.pdn_schema.specs.declared.form.Form.{Form}
use Rattle.pdn_schema.specs.declared.form.Form.TheVariants as forms
use Rattle.pdn_schema.specs.Names.{is_name}

-- the number that the digits write behind those of n
abbrev pub value_from : ℕ → List ℕ → ℕ
value_from n [] = n
value_from n (b ∷ bs) = value_from (n * 10 + (b - 48)) bs

-- a number is 1 to 10 digits
abbrev pub is_number : List ℕ → Bool
is_number word = nat_lt 0 (length word) && nat_le (length word) 10 && all_ascii_digits word

abbrev pub number_of : List ℕ → Option ℕ
number_of word = if is_number word then Some (value_from 0 word) else None

unfoldable pub kind_said : List ℕ → Option Kind
kind_said word = if bytes_eq word (codes "int") then Some kinds.Int else if bytes_eq word (codes "code") then Some kinds.Code else None

abbrev pub version_or : Option ℕ → Form
version_or None = forms.Nothing
version_or (Some n) = forms.Version n

abbrev pub floor_or : Option ℕ → Form
floor_or None = forms.Nothing
floor_or (Some n) = forms.Floor n

abbrev pub caller_or : List ℕ → Option ℕ → Form
caller_or name None = forms.Nothing
caller_or name (Some n) = forms.Caller name n

abbrev pub table_or : List ℕ → Option ℕ → Form
table_or name None = forms.Nothing
table_or name (Some n) = forms.Table name n

abbrev pub public_or : List ℕ → Option Kind → Option ℕ → Form
public_or name None per = forms.Nothing
public_or name (Some kind) None = forms.Nothing
public_or name (Some kind) (Some n) = forms.Column name kind labels.Public n

abbrev pub hidden_or : List ℕ → Option Kind → Label → Form
hidden_or name None mark = forms.Nothing
hidden_or name (Some kind) mark = forms.Column name kind mark 0

-- `version n`, `floor n`
unfoldable pub two_words : List ℕ → List ℕ → Form
two_words a b =
    if bytes_eq a (codes "version") then version_or (number_of b)
    else if bytes_eq a (codes "floor") then floor_or (number_of b)
    else forms.Nothing

-- `caller name calls n`, `table name rows n`, `column name kind protected`, `column name kind private`
unfoldable pub four_words : List ℕ → List ℕ → List ℕ → List ℕ → Form
four_words a b c d =
    if bytes_eq a (codes "caller") && bytes_eq c (codes "calls") && is_name b then caller_or b (number_of d)
    else if bytes_eq a (codes "table") && bytes_eq c (codes "rows") && is_name b then table_or b (number_of d)
    else if bytes_eq a (codes "column") && bytes_eq d (codes "protected") && is_name b then hidden_or b (kind_said c) labels.Protected
    else if bytes_eq a (codes "column") && bytes_eq d (codes "private") && is_name b then hidden_or b (kind_said c) labels.Private
    else forms.Nothing

-- `column name kind public per n`
unfoldable pub six_words : List ℕ → List ℕ → List ℕ → List ℕ → List ℕ → List ℕ → Form
six_words a b c d e f =
    if bytes_eq a (codes "column") && bytes_eq d (codes "public") && bytes_eq e (codes "per") && is_name b then public_or b (kind_said c) (number_of f)
    else forms.Nothing

-- the six forms
unfoldable pub form_of : List (List ℕ) → Form
form_of (a ∷ []) = if bytes_eq a (codes "end") then forms.End else forms.Nothing
form_of (a ∷ b ∷ []) = two_words a b
form_of (a ∷ b ∷ c ∷ d ∷ []) = four_words a b c d
form_of (a ∷ b ∷ c ∷ d ∷ e ∷ f ∷ []) = six_words a b c d e f
form_of words = forms.Nothing
