-- Options, and lines that are checked against a text.
use Rattle.std.proofs.Common.{◌≡◌, ℕ, Bool, true, false, cond, List, Option, Some, None, refl, subst}
use Rattle.std.specs.Prelude.{◌&&◌}
use Rattle.std.specs.Str.{bytes_eq}
use Rattle.std.proofs.lemmas.Bool.{false≢true}
use Rattle.std.proofs.lemmas.Slice.Eq.{bytes_eq-Decides}
use Rattle.pdn_view.specs.Lines.{Line, spaced}
use Rattle.pdn_view.specs.Guesses.{mapped, both}
use Rattle.pdn_view.specs.Machine.{checked}

pub and_true : (x y : Bool) → x && y ≡ true → (x ≡ true) × (y ≡ true)
and_true true y e = (refl, e)
and_true false y e = absurd (false≢true e)

pub both_true : (x y : Bool) → x ≡ true → y ≡ true → x && y ≡ true
both_true x y h k = rw (h, k) refl

pub same_bytes : (xs ys : List ℕ) → bytes_eq xs ys ≡ true → xs ≡ ys
same_bytes xs ys e = (bytes_eq-Decides xs ys).0 e

pub itself : (xs : List ℕ) → bytes_eq xs xs ≡ true
itself xs = (bytes_eq-Decides xs xs).1 refl

pub mapped_some : {A B : Type 0} (f : A → B) (x : Option A) (y : B) → mapped f x ≡ Some y → (a : A) × (x ≡ Some a) × (f a ≡ y)
mapped_some f None y e = absurd cc
mapped_some f (Some a) y e = (a, refl, cc)

pub both_some : {A B C : Type 0} (f : A → B → C) (x : Option A) (y : Option B) (z : C) → both f x y ≡ Some z → (a : A) × (b : B) × (x ≡ Some a) × (y ≡ Some b) × (f a b ≡ z)
both_some f None y z e = absurd cc
both_some f (Some a) None z e = absurd cc
both_some f (Some a) (Some b) z e = (a, b, refl, refl, cc)

pub cond_some : {A : Type 0} (b : Bool) (x : Option A) (y : A) → cond b x None ≡ Some y → (b ≡ true) × (x ≡ Some y)
cond_some true x y e = (refl, e)
cond_some false x y e = absurd cc

pub some_is : {X : Type 0} (x y : X) → Some x ≡ Some y → x ≡ y
some_is x y e = cc

pub checked_ok : {X : Type 0} (says : X → Line) (line : List ℕ) (g : Option X) (x : X) → checked says line g ≡ Some x → (g ≡ Some x) × (spaced (says x) ≡ line)
checked_ok says line None x e = absurd cc
checked_ok says line (Some y) x e =
    let c = cond_some (bytes_eq (spaced (says y)) line) (Some y) x e in
    (c.1, subst (λ z. spaced (says z) ≡ line) (some_is y x c.1) (same_bytes (spaced (says y)) line c.0))

pub checked_same : {X : Type 0} (says : X → Line) (line : List ℕ) (g : Option X) (x : X) → g ≡ Some x → spaced (says x) ≡ line → checked says line g ≡ Some x
checked_same says line g x e is = rw (e, is, itself line) refl
