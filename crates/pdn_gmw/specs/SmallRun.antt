-- Small runs, worked out apart from these definitions (by two machines in another language).
use Rattle.std.specs.Prelude.{◌≡◌, ℕ, true, false, List, [], ◌∷◌}
use Rattle.pdn_circuit.specs.Gates.{Net}
use Rattle.pdn_circuit.specs.declared.gate.Gate.TheVariants.{Input, Const, Xor, And, Spread, Move}
use Rattle.pdn_base.specs.declared.site.Site.TheVariants.{A, B}
use Rattle.pdn_dealer.specs.Sections.{layout_of}
use Rattle.pdn_gmw.specs.Shares.{World, Masked, walk, view_of, put_out}
use Rattle.pdn_gmw.specs.Steps.{rounds_of, frame_count}

abbrev pub frame : ℕ → ℕ → Masked
frame d e = record { d = d; e = e }

abbrev pub small_net : Net
small_net = record {
  gates = Input A 0 ∷ Input B 0 ∷ Const 890727360438182992 ∷ Xor 0 2 ∷ And 3 1 ∷ Spread 4 5 ∷ Move 4 2 5 7 ∷ And 5 6 ∷ [];
  outputs = 4 ∷ 7 ∷ [];
  released = true;
}

abbrev pub small_world : World
small_world = record { inputs = record { a = 17485029721327973432 ∷ []; b = 7283207964119141687 ∷ []; given = [] }; given_a = [] }

abbrev pub small_words : List ℕ
small_words = 15149836622520594227 ∷ 1736392818365009963 ∷ 10750541312280087032 ∷ 16781078052021535861 ∷ 3960482443532127989 ∷ 1585446675937841368 ∷ 7713914763314685786 ∷ 4439448776366754703 ∷ 10165027665383847897 ∷ 1090396360377453094 ∷ 10430779633273967791 ∷ 17477362246067780643 ∷ 11632994891556335705 ∷ 10754394637803157173 ∷ []

pub record SmallRun : Type 0 where
  pub words : (walk small_world (layout_of small_net small_words) small_net.gates).words ≡ 17485029721327973432 ∷ 7283207964119141687 ∷ 890727360438182992 ∷ 18373334307805925480 ∷ 7211144829529751584 ∷ 18446744073709551615 ∷ 1024 ∷ 1024 ∷ []
  pub a : (walk small_world (layout_of small_net small_words) small_net.gates).a ≡ 2348703897690675979 ∷ 1736392818365009963 ∷ 890727360438182992 ∷ 3225767077370281819 ∷ 7866733942420945831 ∷ 18446744073709551615 ∷ 1152 ∷ 17243321419674514947 ∷ []
  pub from_a : (walk small_world (layout_of small_net small_words) small_net.gates).from_a ≡ frame 13399794721049802403 3381813942862536414 ∷ frame 14007295297342796912 1090396360377454246 ∷ []
  pub from_b : (walk small_world (layout_of small_net small_words) small_net.gates).from_b ≡ frame 4241640638930627398 7713377833198341572 ∷ frame 10165027665383847897 10430779633273967663 ∷ []
  pub out_a : put_out A small_world (layout_of small_net small_words) small_net ≡ 14725913091525315582 ∷ 8823639677560553654 ∷ []
  pub out_b : put_out B small_world (layout_of small_net small_words) small_net ≡ 12128143130283215838 ∷ 8823639677560554678 ∷ []

-- ---- one And gate, whose word is released
abbrev pub and_net : Net
and_net = record { gates = Input A 0 ∷ Input B 0 ∷ And 0 1 ∷ []; outputs = 2 ∷ []; released = true }

abbrev pub and_world : World
and_world = record { inputs = record { a = 240 ∷ []; b = 60 ∷ []; given = [] }; given_a = [] }

abbrev pub and_words : List ℕ
and_words = 15 ∷ 51 ∷ 85 ∷ 15 ∷ 51 ∷ 255 ∷ 170 ∷ 1 ∷ []

-- two And gates that read inputs alone, and one that reads another
abbrev pub side_by_side : Net
side_by_side = record { gates = Input A 0 ∷ Input B 0 ∷ And 0 1 ∷ And 1 0 ∷ []; outputs = 3 ∷ []; released = false }

abbrev pub in_a_chain : Net
in_a_chain = record { gates = Input A 0 ∷ Input B 0 ∷ And 0 1 ∷ And 2 1 ∷ []; outputs = 3 ∷ []; released = false }

pub record OneAnd : Type 0 where
  pub from_a : (walk and_world (layout_of and_net and_words) and_net.gates).from_a ≡ frame 170 0 ∷ []
  pub from_b : (walk and_world (layout_of and_net and_words) and_net.gates).from_b ≡ frame 0 240 ∷ []
  pub view_a : view_of A and_world (layout_of and_net and_words) and_net ≡ record { own = 15 ∷ []; other = 51 ∷ []; gates = record { a = 85; b = 51; c = 170; d = 0; e = 240 } ∷ []; masks = 1 ∷ [] }
  pub view_b : view_of B and_world (layout_of and_net and_words) and_net ≡ record { own = 51 ∷ []; other = 15 ∷ []; gates = record { a = 15; b = 255; c = 226; d = 170; e = 0 } ∷ []; masks = 1 ∷ [] }
  pub out_a : put_out A and_world (layout_of and_net and_words) and_net ≡ 121 ∷ []
  pub out_b : put_out B and_world (layout_of and_net and_words) and_net ≡ 73 ∷ []
  pub one_frame : frame_count and_net ≡ 1
  pub rounds : rounds_of side_by_side ≡ 1 ∷ 1 ∷ []
  pub rounds_of_chain : rounds_of in_a_chain ≡ 1 ∷ 2 ∷ []
