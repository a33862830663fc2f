-- The change of one And gate's section, worked out by hand.
use Rattle.std.specs.Prelude.{◌≡◌, ℕ, List, [], ◌∷◌}
use Rattle.pdn_base.specs.declared.site.Site.TheVariants.{A, B}
use Rattle.pdn_dealer.specs.Sections.{layout_of}
use Rattle.pdn_gmw.specs.Shares.{World, view_of, put_out}
use Rattle.pdn_gmw.specs.SmallRun.{and_net, and_world, and_words}
use Rattle.pdn_shift.specs.Changes.{shift_words}

-- the same with another word of B, and with another word of A
abbrev pub other_b : World
other_b = record { inputs = record { a = 240 ∷ []; b = 0 ∷ []; given = [] }; given_a = [] }

abbrev pub other_a : World
other_a = record { inputs = record { a = 0 ∷ []; b = 60 ∷ []; given = [] }; given_a = [] }

-- only b1 changes for A
abbrev pub words_for_a : List ℕ
words_for_a = 15 ∷ 51 ∷ 85 ∷ 15 ∷ 51 ∷ 195 ∷ 170 ∷ 1 ∷ []

-- only a0 and c0 change for B
abbrev pub words_for_b : List ℕ
words_for_b = 15 ∷ 51 ∷ 165 ∷ 15 ∷ 51 ∷ 255 ∷ 106 ∷ 1 ∷ []

-- each site sees and puts out what it saw and put out in the first world
pub record SmallShift : Type 0 where
  pub for_a : shift_words A and_net and_world.inputs other_b.inputs and_words ≡ words_for_a
  pub for_b : shift_words B and_net and_world.inputs other_a.inputs and_words ≡ words_for_b
  pub back_a : shift_words A and_net other_b.inputs and_world.inputs words_for_a ≡ and_words
  pub back_b : shift_words B and_net other_a.inputs and_world.inputs words_for_b ≡ and_words
  pub view_a : view_of A other_b (layout_of and_net words_for_a) and_net ≡ record { own = 15 ∷ []; other = 51 ∷ []; gates = record { a = 85; b = 51; c = 170; d = 0; e = 240 } ∷ []; masks = 1 ∷ [] }
  pub view_b : view_of B other_a (layout_of and_net words_for_b) and_net ≡ record { own = 51 ∷ []; other = 15 ∷ []; gates = record { a = 15; b = 255; c = 226; d = 170; e = 0 } ∷ []; masks = 1 ∷ [] }
  pub out_a : put_out A other_b (layout_of and_net words_for_a) and_net ≡ 121 ∷ []
  pub out_b : put_out B other_a (layout_of and_net words_for_b) and_net ≡ 73 ∷ []
