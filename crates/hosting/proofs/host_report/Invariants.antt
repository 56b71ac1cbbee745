use Rattle.std.proofs.Common.{take, string_bytes}
use Rattle.hosting.specs.Hosting.{ToldAll}
use Rattle.hosting.proofs.host_report.Given as goal

-- the text tells of the orders up to here
abbrev pub invariant-loop-order : goal.invariant-loop-order
invariant-loop-order g l =
    ToldAll g.B.Survey.situation g.B.Host.service g.B.Host.does (take l.order-index l.orders) l.fn.host l.host (string_bytes l.text)
