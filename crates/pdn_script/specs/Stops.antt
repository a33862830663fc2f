-- What the code's stops stand for.
use Rattle.std.specs.Prelude.{◌≡◌, ◌⊎◌, ℕ, List, Result, Ok, Err}
use Rattle.std.specs.String.{string_bytes}
use Rattle.pdn_base.specs.Texts.{refusal}
use Rattle.pdn_base.specs.declared.status.Status.{Status}
use Rattle.pdn_script.specs.declared.stop.Stop.{Stop}
use Rattle.pdn_script.specs.declared.stop.Stop.TheVariants as stop
use Rattle.pdn_script.specs.Ways.{End, Finished, NoMemory, PutFailed, Refused}

abbrev pub stop_of : Stop → End
stop_of (stop.Refused status line) = Refused status (string_bytes line)
stop_of stop.Sink = PutFailed
stop_of stop.Memory = NoMemory

abbrev pub end_of : {T : Type 0} → Result T Stop → End
end_of (Ok done) = Finished
end_of (Err stop) = stop_of stop

-- this refusal with its line, or want of memory
abbrev pub IsRefusal : List ℕ → List ℕ → Status → Stop → Type 0
IsRefusal table column status stop = (stop_of stop ≡ Refused status (refusal table column status)) ⊎ (stop_of stop ≡ NoMemory)
