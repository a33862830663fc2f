-- Going over the files of a site's tables.
use Rattle.std.proofs.Common.{◌≡◌, ℕ, zero, suc, ◌+◌, ◌<◌, ◌≤◌, List, [], ◌∷◌, length, take, get_or, arith, Option, inl, inr, ◌⊎◌, refl, subst}
use Rattle.pdn_base.specs.declared.site.Site.{Site}
use Rattle.pdn_keeper.specs.Batches.{BatchHeld}
use Rattle.pdn_schema.specs.Models.{TableModel, no_table}
use Rattle.pdn_startup.specs.Starting.{file_of_site, TakesFile, TakesFiles, RefusesFile, RefusesFirst, IsFileOr}
use Rattle.pdn_startup.specs.declared.imports.ImportErr.{ImportErr}
use Rattle.pdn_startup.specs.declared.imports.ImportErr.TheVariants as errors
use Rattle.pdn_base.specs.Outside.{Rose}

-- what is said of the file goes on to what follows from it
pub file_or_weaker : (P Q : List ℕ → Type 0) → ((name : List ℕ) → P name → Q name) → (e : ImportErr) → IsFileOr P e → IsFileOr Q e
file_or_weaker P Q up (errors.File name) is = up _ is
file_or_weaker P Q up errors.Memory is = tt

-- a count that rose in the end rose from the beginning
rose_before : (old mid now : ℕ) → old ≤ mid → Rose mid now → Rose old now
rose_before old mid now h rise = omega (arith, h, rise)

pub either_rose : (f g h k m n : ℕ) → f ≤ g → k ≤ m → Rose g h ⊎ Rose m n → Rose f h ⊎ Rose k n
either_rose f g h k m n e d (inl rise) = inl (rose_before f g h e rise)
either_rose f g h k m n e d (inr rise) = inr (rose_before k m n d rise)

module _ (files : Option (List ℕ → Option (List ℕ))) (site : Site) where
  takes_more : (ts : List TableModel) (k : ℕ) (old mid new : Option (List BatchHeld)) → k < length ts → TakesFiles files site (take k ts) old mid →
      TakesFile files site (get_or ts k no_table) mid new → TakesFiles files site (take (suc k) ts) old new
  takes_more [] k old mid new l h is = absurd (omega (arith, l))
  takes_more (t ∷ ts) zero old mid new l same is = (new, subst (λ (kept : Option (List BatchHeld)). TakesFile files site t kept new) same is, refl)
  takes_more (t ∷ ts) (suc k) old mid new l (x, first, later) is = (x, first, takes_more ts k x mid new (omega (arith, l)) later is)

  -- one table more
  pub takes_next : (ts : List TableModel) (k : ℕ) (old mid new : Option (List BatchHeld)) → k < length ts → TakesFiles files site (take k ts) old mid →
      TakesFile files site (get_or ts k no_table) mid new → TakesFiles files site (take (k + 1) ts) old new
  takes_next ts k old mid new l h is = let e : suc k ≡ k + 1 = omega arith in subst (λ (n : ℕ). TakesFiles files site (take n ts) old new) e (takes_more ts k old mid new l h is)

  refuses_wider : (rose more : Type 0) (t : TableModel) (old : Option (List BatchHeld)) → (rose → more) → RefusesFile rose files site t old → RefusesFile more files site t old
  refuses_wider rose more t old up (inl rise) = inl (up rise)
  refuses_wider rose more t old up (inr is) = inr is

  -- the first that is refused
  refuses_at : (rose : Type 0) (ts : List TableModel) (k : ℕ) (old mid : Option (List BatchHeld)) (name : List ℕ) → k < length ts → TakesFiles files site (take k ts) old mid →
      name ≡ file_of_site site (get_or ts k no_table) → RefusesFile rose files site (get_or ts k no_table) mid → RefusesFirst rose files site ts old name
  refuses_at rose [] k old mid name l h e is = absurd (omega (arith, l))
  refuses_at rose (t ∷ ts) zero old mid name l same e is = inl (e, subst (λ (kept : Option (List BatchHeld)). RefusesFile rose files site t kept) same is)
  refuses_at rose (t ∷ ts) (suc k) old mid name l (x, first, later) e is = inr (x, first, refuses_at rose ts k x mid name (omega (arith, l)) later e is)

  pub refused_at : (rose more : Type 0) (there : Option (List ℕ → Option (List ℕ))) (ts : List TableModel) (k : ℕ) (old mid : Option (List BatchHeld)) → k < length ts →
      TakesFiles files site (take k ts) old mid → there ≡ files → (rose → more) → (name : List ℕ) →
      (name ≡ file_of_site site (get_or ts k no_table)) × RefusesFile rose there site (get_or ts k no_table) mid → RefusesFirst more files site ts old name
  refused_at rose more there ts k old mid l h same up name (e, is) =
      refuses_at more ts k old mid name l h e
      (refuses_wider rose more (get_or ts k no_table) mid up (subst (λ (f : Option (List ℕ → Option (List ℕ))). RefusesFile rose f site (get_or ts k no_table) mid) same is))
