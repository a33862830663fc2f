-- Files in memory.
use Rattle.std.proofs.Common.{◌≡◌, ℕ, List, [], ◌∷◌, map, refl, sym, ap, ◌∙◌, arith, Option, Some, Result, Ok, Err, MatchResult, IfOk}
use Rattle.std.proofs.lemmas.Grind.{common_steps}
use Rattle.std.specs.List.{find}
use Rattle.std.specs.Option.{option_map}
use Rattle.std.specs.Str.{bytes_eq}
use Rattle.pdn_base.specs.Outside.{content_of, named}

content_of-map : {F : Type 0} (name_of bytes_of : F → List ℕ) (name : List ℕ) (files : List F) →
    content_of (map (λ file. named (name_of file) (bytes_of file)) files) name ≡ option_map bytes_of (find (λ file. bytes_eq (name_of file) name) files)
content_of-map name_of bytes_of name [] = refl
content_of-map name_of bytes_of name (file ∷ files) = grind (arith, common_steps, content_of-map name_of bytes_of name files)

-- what a name holds, by the file that was found
pub content_found : {F : Type 0} (name_of bytes_of : F → List ℕ) (name : List ℕ) (files : List F) (found : Option F) → found ≡ find (λ file. bytes_eq (name_of file) name) files →
    option_map bytes_of found ≡ content_of (map (λ file. named (name_of file) (bytes_of file)) files) name
content_found name_of bytes_of name files found e = rw (e, content_of-map name_of bytes_of name files) refl

-- a copy of what is held
pub copied : {V E : Type 0} (items : V → List ℕ) (made : Result V E) (held : Option (List ℕ)) (bytes : List ℕ) (Q : E → Type 0) → held ≡ Some bytes →
    MatchResult made (λ v. items v ≡ bytes) Q → IfOk made (λ v. held ≡ Some (items v))
copied items (Ok v) held bytes Q h m = h ∙ ap Some (sym m)
copied items (Err e) held bytes Q h m = tt
