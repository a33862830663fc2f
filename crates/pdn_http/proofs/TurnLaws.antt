-- Turns of receiving, one after the other.
use Rattle.std.proofs.Common.{◌≡◌, ◌≤◌, ◌<◌, ◌+◌, ℕ, List, [], ◌++◌, min, length, take, true, false, Bool, sym, ap, ◌∙◌, subst, arith, ⊎_elim}
use Rattle.std.proofs.Common.{append_assoc, append-nil, length-append, length-take, take_all}
use lib.Seq.{take-append-le}
use Rattle.std.proofs.lemmas.Bool.{cases_lt}
use Rattle.std.specs.Prelude.{Option}
use Rattle.std.specs.Io.KnownBytes.{Consumes, IsAtEnd}
use Rattle.std.proofs.KnownBytes.{Consumes-trans}
use Rattle.pdn_http.specs.Receiving.{Received, BodyCame, BodyEnded}

-- all that has come, after one more turn
pub consumes_turn : (old mid new : Option (List ℕ)) (before after : List ℕ) (most : ℕ) (some : Bool)
    → Consumes old mid before → Received mid new before after most some → Consumes old new after
consumes_turn old mid new before after most some taken r =
    subst (Consumes old new) (sym r.all) (Consumes-trans old mid new before r.got taken r.taken)

-- what has come so far behind what had come before
pub record Come (old new : Option (List ℕ)) (before after : List ℕ) : Type 0 where
  pub got : List ℕ
  pub taken : Consumes old new got
  pub all : after ≡ before ++ got

pub Come-more : (old mid new : Option (List ℕ)) (before during after : List ℕ) (most : ℕ) (some : Bool)
    → Come old mid before during → Received mid new during after most some → Come old new before after
Come-more old mid new before during after most some come r = record {
  got = come.got ++ r.got;
  taken = Consumes-trans old mid new come.got r.got come.taken r.taken;
  all = r.all ∙ ap (λ l. l ++ r.got) come.all ∙ append_assoc before come.got r.got;
}

-- a turn makes the bytes longer, by at most so many
pub longer : {old new : Option (List ℕ)} {before after : List ℕ} {most : ℕ} {some : Bool} → Received old new before after most some → some ≡ true
    → (length before < length after) × (length after ≤ length before + most)
longer {before} r some =
    let size = ap length r.all in
    let both = length-append before r.got in
    let more = r.more some in
    let few = r.few in
    (omega (arith, size, both, more), omega (arith, size, both, few))

-- a turn in which none came
pub unchanged : {old new : Option (List ℕ)} {before after : List ℕ} {most : ℕ} {some : Bool} → Received old new before after most some → some ≡ false
    → after ≡ before
unchanged {before} r none = r.all ∙ ap (λ l. before ++ l) (r.end none).1 ∙ append-nil before

empty_by_length : (xs : List ℕ) → length xs ≡ 0 → xs ≡ []
empty_by_length xs e = sym (take_all 0 xs (omega (arith, e)))

abbrev pub front_of : List ℕ → ℕ → List ℕ
front_of come size = take (min (length come) size) come

short_front : (come got : List ℕ) (size : ℕ) → length come < size → length (front_of come size ++ got) ≡ size
    → take size (come ++ got) ≡ front_of come size ++ got
short_front come got size h e =
    let least : min (length come) size ≡ length come = omega (arith, h) in
    let all : front_of come size ≡ come = ap (λ n. take n come) least ∙ take_all (length come) come (omega arith) in
    let size_is : length (come ++ got) ≡ size = ap (λ l. length (l ++ got)) (sym all) ∙ e in
    take_all size (come ++ got) (omega (arith, size_is)) ∙ ap (λ l. l ++ got) (sym all)

long_front : (come got : List ℕ) (size : ℕ) → size ≤ length come → length (front_of come size ++ got) ≡ size
    → take size (come ++ got) ≡ front_of come size ++ got
long_front come got size h e =
    let least : min (length come) size ≡ size = omega (arith, h) in
    let front : front_of come size ≡ take size come = ap (λ n. take n come) least in
    let none = empty_by_length got (omega (arith, length-append (front_of come size) got, length-take (min (length come) size) come, e, h)) in
    take-append-le size come got h ∙ sym front ∙ sym (append-nil (front_of come size)) ∙ ap (λ l. front_of come size ++ l) (sym none)

whole_front : (come got : List ℕ) (size : ℕ) → length (front_of come size ++ got) ≡ size
    → take size (come ++ got) ≡ front_of come size ++ got
whole_front come got size e = ⊎_elim (λ h. short_front come got size h e) (λ h. long_front come got size h e) (cases_lt (length come) size)

-- a body that is whole: the front of what had come of it, and what was received of it
pub body_whole : (old new : Option (List ℕ)) (come body : List ℕ) (size : ℕ) → Come old new (front_of come size) body
    → length body ≡ size → BodyCame old new come size body
body_whole old new come body size c whole =
    let is = whole_front come c.got size (ap length (sym c.all) ∙ whole) in
    record {
      got = c.got;
      taken = c.taken;
      within = omega (arith, whole, ap length c.all, length-append (front_of come size) c.got, length-take (min (length come) size) come, length-append come c.got);
      is = c.all ∙ sym is;
    }

-- a body that isn't whole, where no more comes
pub body_ended : (old new : Option (List ℕ)) (come body : List ℕ) (size : ℕ) → Come old new (front_of come size) body
    → length body < size → IsAtEnd new → BodyEnded old new come size
body_ended old new come body size c short end = record {
  got = c.got;
  taken = c.taken;
  end = end;
  short = omega (arith, short, ap length c.all, length-append (front_of come size) c.got, length-take (min (length come) size) come, length-append come c.got);
}
