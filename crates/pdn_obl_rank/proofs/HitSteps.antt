-- The gates of one row against one word, made one after the other.
use Rattle.std.proofs.Common.{◌≡◌, ℕ, List, length, Result, ap, ◌∙◌}
use Rattle.pdn_circuit.specs.declared.gate.Gate.TheVariants.{Const}
use Rattle.pdn_circuit.specs.declared.tally.BuildErr.{BuildErr}
use Rattle.pdn_circuit.specs.Blocks.{Making, one, ◌>>=◌}
use Rattle.pdn_circuit.specs.Building.{Made, Makes, Refuses, Stops, Builds, Tries, Along}
use Rattle.pdn_circuit.specs.Compare.{equal_gates, less_gates}
use Rattle.pdn_circuit.proofs.Making.{along_begin, along_next, along_refused, last_tries, builds_tries}
use Rattle.pdn_obl_rows.specs.Conditions.{and_gates}
use Rattle.pdn_obl_rank.specs.Keys.{planes_up, planes_down, word_columns}
use Rattle.pdn_obl_rank.specs.Numbers.{Ranked, from_place, hit_gates}

-- the gates, from the word of ties on
abbrev pub hit_made : Ranked → ℕ → List ℕ → List ℕ → ℕ → ℕ → Making ℕ
hit_made r valid part key place w = do
  same ← equal_gates part (planes_up (word_columns r.columns w r.partition))
  ties ← one (Const place)
  before ← less_gates ties key (planes_down (word_columns r.columns w r.key))
  both ← and_gates same before
  and_gates valid both

-- the gates of a row's lanes, read from elsewhere
pub same_hit : (r : Ranked) (v valid : ℕ) (p part q key : List ℕ) (t j w : ℕ) → v ≡ valid → p ≡ part → q ≡ key → t ≡ from_place j w → hit_made r v p q t w ≡ hit_gates r valid part key j w
same_hit r v valid p part q key t j w a b c d =
    ap (λ n. hit_made r n p q t w) a ∙ ap (λ (xs : List ℕ). hit_made r valid xs q t w) b ∙ ap (λ (xs : List ℕ). hit_made r valid part xs t w) c ∙ ap (λ n. hit_made r valid part key n w) d

module _ (old : Made) (r : Ranked) (valid : ℕ) (part key : List ℕ) (place w : ℕ) where
  abbrev whole : Making ℕ
  whole = hit_made r valid part key place w

  abbrev pub same_block : Making ℕ
  same_block = equal_gates part (planes_up (word_columns r.columns w r.partition))

  abbrev pub before_block : ℕ → Making ℕ
  before_block ties = less_gates ties key (planes_down (word_columns r.columns w r.key))

  abbrev after_before : ℕ → ℕ → Making ℕ
  after_before same before = and_gates same before >>= λ both. and_gates valid both

  abbrev after_ties : ℕ → ℕ → Making ℕ
  after_ties same ties = before_block ties >>= after_before same

  abbrev after_same : ℕ → Making ℕ
  after_same same = one (Const (place)) >>= after_ties same

  pub no_same : (new : Made) (err : BuildErr) → Refuses old new (same_block (length old.gates)) err → Stops old new (whole (length old.gates)) err
  no_same new err f = along_refused old old new whole same_block after_same err (along_begin old whole) f

  module _ (m1 : Made) (same : ℕ) (a : Makes old m1 (same_block (length old.gates)) same) where
    s1 : Along old whole m1 (after_same same)
    s1 = along_next old old m1 whole same_block after_same same (along_begin old whole) a

    pub no_ties : (new : Made) (err : BuildErr) → Refuses m1 new (one (Const (place)) (length m1.gates)) err → Stops old new (whole (length old.gates)) err
    no_ties new err f = along_refused old m1 new whole _ (after_ties same) err s1 f

    module _ (m2 : Made) (ties : ℕ) (b : Makes m1 m2 (one (Const (place)) (length m1.gates)) ties) where
      s2 : Along old whole m2 (after_ties same ties)
      s2 = along_next old m1 m2 whole _ (after_ties same) ties s1 b

      pub no_before : (new : Made) (err : BuildErr) → Refuses m2 new (before_block ties (length m2.gates)) err → Stops old new (whole (length old.gates)) err
      no_before new err f = along_refused old m2 new whole _ (after_before same) err s2 f

      module _ (m3 : Made) (before : ℕ) (d : Makes m2 m3 (before_block ties (length m2.gates)) before) where
        s3 : Along old whole m3 (after_before same before)
        s3 = along_next old m2 m3 whole _ (after_before same) before s2 d

        pub no_both : (new : Made) (err : BuildErr) → Refuses m3 new (and_gates same before (length m3.gates)) err → Stops old new (whole (length old.gates)) err
        no_both new err f = along_refused old m3 new whole _ (λ both. and_gates valid both) err s3 f

        pub last : (m4 new : Made) (both : ℕ) (result : Result ℕ BuildErr) → Makes m3 m4 (and_gates same before (length m3.gates)) both → Builds m4 new (and_gates valid both) result → Tries old new whole result
        last m4 new both result e f = last_tries old m4 new whole (and_gates valid both) result (along_next old m3 m4 whole _ (λ both. and_gates valid both) both s3 e) (builds_tries m4 new (and_gates valid both) result f)
