-- Lists of JSON values, and their texts.
use Rattle.std.proofs.Common.{◌≡◌, ◌<◌, ◌+◌, ℕ, List, [], ◌∷◌, ◌++◌, map, take, length, get_or, Vec, Global, true, false, refl, sym, ap, ◌∙◌, subst, codes}
use Rattle.std.proofs.Common.{append_assoc}
use Rattle.std.proofs.lemmas.List.{map_more}
use Rattle.serde_json.specs.Data.{string}
use Rattle.serde_json.specs.View.{view, items_view}
use Rattle.serde_json.specs.Written.{compact_text, has_float, items_text, items_have_float}
use Rattle.serde_json.specs.declared.value.Value.{Value, Array}
use Rattle.serde_json.proofs.Views.{view-Array}
use Rattle.json.specs.Print.{quoted}
use Rattle.pdn_reply.specs.Bodies.{after_commas, by_commas, list_text}
use Rattle.pdn_reply.specs.Values.{Says, SayEach}

pub say_more : (jsons : List Value) (texts : List (List ℕ)) (json : Value) (text : List ℕ) → SayEach jsons texts → Says json text
    → SayEach (jsons ++ json ∷ []) (texts ++ text ∷ [])
say_more [] [] json text each one = (one, tt)
say_more [] (t ∷ texts) json text each one = absurd each
say_more (j ∷ jsons) [] json text each one = absurd each
say_more (j ∷ jsons) (t ∷ texts) json text each one = (each.0, say_more jsons texts json text each.1 one)

-- one more of a list
pub say_next : {A : Type 0} (f : A → List ℕ) (xs : List A) (i : ℕ) (x : A) (jsons : List Value) (json : Value) → i < length xs → x ≡ get_or xs i x
    → SayEach jsons (map f (take i xs)) → Says json (f x) → SayEach (jsons ++ json ∷ []) (map f (take (i + 1) xs))
say_next f xs i x jsons json within is each one =
    subst (SayEach (jsons ++ json ∷ [])) (sym (map_more f xs i x within ∙ ap (λ y. map f (take i xs) ++ f y ∷ []) (sym is)))
    (say_more jsons (map f (take i xs)) json (f x) each one)

plain : (jsons : List Value) (texts : List (List ℕ)) → SayEach jsons texts → items_have_float (items_view jsons) ≡ false
plain [] [] each = refl
plain [] (t ∷ texts) each = absurd each
plain (j ∷ jsons) [] each = absurd each
plain (j ∷ jsons) (t ∷ texts) each = rw (each.0.plain) (plain jsons texts each.1)

later_items : (jsons : List Value) (texts : List (List ℕ)) → SayEach jsons texts → items_text true (items_view jsons) ≡ after_commas texts ++ codes "]"
later_items [] [] each = refl
later_items [] (t ∷ texts) each = absurd each
later_items (j ∷ jsons) [] each = absurd each
later_items (j ∷ jsons) (t ∷ texts) each =
    rw (each.0.text_is, later_items jsons texts each.1) (ap (λ l. 44 ∷ l) (sym (append_assoc t (after_commas texts) (codes "]"))))

items : (jsons : List Value) (texts : List (List ℕ)) → SayEach jsons texts → items_text false (items_view jsons) ≡ by_commas texts ++ codes "]"
items [] [] each = refl
items [] (t ∷ texts) each = absurd each
items (j ∷ jsons) [] each = absurd each
items (j ∷ jsons) (t ∷ texts) each =
    rw (each.0.text_is, later_items jsons texts each.1) (sym (append_assoc t (after_commas texts) (codes "]")))

-- a list of values that have these texts
pub says_list : (jsons : Vec Value Global) (texts : List (List ℕ)) → SayEach jsons.items texts → Says (Array jsons) (list_text texts)
says_list jsons texts each = record {
  plain = ap has_float (view-Array jsons) ∙ plain jsons.items texts each;
  text_is = ap compact_text (view-Array jsons) ∙ ap (λ l. 91 ∷ l) (items jsons.items texts each);
}

-- a string
pub says_string : (json : Value) (text : List ℕ) → view json ≡ string text → Says json (quoted text)
says_string json text is = record { plain = ap has_float is; text_is = ap compact_text is }
