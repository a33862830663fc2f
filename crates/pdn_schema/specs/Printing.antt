-- The printed form of a schema.
use Rattle.std.specs.Prelude.{codes, ℕ, List, [], ◌∷◌, ◌++◌}
use Rattle.std.specs.Fmt.{decimal}
use Rattle.pdn_base.specs.declared.marks.Kind.{Kind}
use Rattle.pdn_base.specs.declared.marks.Kind.TheVariants as kinds
use Rattle.pdn_base.specs.declared.marks.Label.{Label}
use Rattle.pdn_base.specs.declared.marks.Label.TheVariants as labels
use Rattle.pdn_schema.specs.declared.form.Form.{Form}
use Rattle.pdn_schema.specs.declared.form.Form.TheVariants as forms
use Rattle.pdn_schema.specs.Models.{SchemaModel}
use Rattle.pdn_schema.specs.Reading.{forms_of}

abbrev pub kind_word : Kind → List ℕ
kind_word kinds.Int = codes "int"
kind_word kinds.Code = codes "code"

-- the words of a column's mark, and their text
abbrev pub mark_words : Label → ℕ → List (List ℕ)
mark_words labels.Public per = codes "public" ∷ codes "per" ∷ decimal per ∷ []
mark_words labels.Protected per = codes "protected" ∷ []
mark_words labels.Private per = codes "private" ∷ []

abbrev pub mark_text : Label → ℕ → List ℕ
mark_text labels.Public per = codes "public per " ++ decimal per
mark_text labels.Protected per = codes "protected"
mark_text labels.Private per = codes "private"

-- the words of a form
abbrev pub form_words : Form → List (List ℕ)
form_words (forms.Version n) = codes "version" ∷ decimal n ∷ []
form_words (forms.Floor n) = codes "floor" ∷ decimal n ∷ []
form_words (forms.Caller name calls) = codes "caller" ∷ name ∷ codes "calls" ∷ decimal calls ∷ []
form_words (forms.Table name rows) = codes "table" ∷ name ∷ codes "rows" ∷ decimal rows ∷ []
form_words (forms.Column name kind mark per) = codes "column" ∷ name ∷ kind_word kind ∷ mark_words mark per
form_words forms.End = codes "end" ∷ []
form_words forms.Nothing = []

-- words with single spaces between them
abbrev pub joined_behind : List ℕ → List (List ℕ) → List ℕ
joined_behind w [] = w
joined_behind w (v ∷ ws) = w ++ 32 ∷ joined_behind v ws

abbrev pub joined : List (List ℕ) → List ℕ
joined [] = []
joined (w ∷ ws) = joined_behind w ws

-- a line feed after each line
abbrev pub lines_text : List Form → List ℕ
lines_text [] = []
lines_text (f ∷ fs) = joined (form_words f) ++ 10 ∷ lines_text fs

abbrev pub line_text : Form → List ℕ
line_text f = joined (form_words f) ++ 10 ∷ []

abbrev pub text_of : SchemaModel → List ℕ
text_of s = lines_text (forms_of s)
