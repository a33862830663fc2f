-- Four words at once. Not part of a promise: the kernels' steps.
use Rattle.std.specs.Prelude.{ℕ, List, bit_and, bit_xor}
use Rattle.std.specs.Simd.Lanes.{zip2}
use Rattle.pdn_base.specs.declared.site.Site.{Site}
use Rattle.pdn_base.specs.declared.site.Site.TheVariants.{A, B}

abbrev pub share_lanes : List ℕ → List ℕ → List ℕ → List ℕ → List ℕ → List ℕ
share_lanes c a b d e = zip2 bit_xor (zip2 bit_xor c (zip2 bit_and d b)) (zip2 bit_and e a)

abbrev pub lanes_step : Site → List ℕ → List ℕ → List ℕ → List ℕ → List ℕ → List ℕ
lanes_step A c a b d e = zip2 bit_xor (share_lanes c a b d e) (zip2 bit_and d e)
lanes_step B c a b d e = share_lanes c a b d e
