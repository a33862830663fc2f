use Rattle.std.proofs.Common.{sym, ap, ◌∙◌}
use Rattle.pdn_view.specs.Parts.{Body}
use Rattle.pdn_view.specs.Machine.{onto}
use Rattle.pdn_view.proofs.machine.Body.next.Goals as goal

pub returns : goal.returns
returns c = (c.next.new.self, ap (λ (b : Body). b.todo) (sym c.self.view_is) ∙ c.in_ok-due.ensures, ap (λ (b : Body). onto b c.next.new.self) c.self.view_is)
