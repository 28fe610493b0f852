use Rattle.forms.proofs.Accepts.{accepts, points}
use Rattle.forms.proofs.Plain.{net_plain, stock_plain, arc_plain}
use Rattle.forms.proofs.form.forms_stand.Goals as goal

pub returns : goal.returns
returns c = record { accepts = accepts; points = points; nets = net_plain; stocks = stock_plain; arcs = arc_plain }
