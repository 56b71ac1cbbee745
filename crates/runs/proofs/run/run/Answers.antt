use Rattle.std.proofs.Common.{◌<◌, ◌^◌, length, arith}
use Rattle.runs.proofs.Answering.{whole}
use Rattle.runs.proofs.run.run.Goals as goal

pub returns : goal.returns
returns g c =
    let short : length c.args.acts.now < 2 ^ 63 = omega arith in
    let w =
    whole g.B.Survey.situation g.B.Host.service g.B.Host.does c.args.host.now c.run_request.new.host (g.B.Survey.lawful c.args.host.now) (g.B.Host.sane c.args.host.now)
    c.args.request c.args.list.now c.run_request.new.list c.args.acts.now c.run_request.new.acts c.run_request.result short
    c.run_request.ensures.refused c.run_request.ensures.list c.run_request.ensures.planned c.run_request.ensures.ran in
    record {
      refused = w.0;
      reach = w.1;
      unless = w.2;
      list = c.run_request.ensures.list;
      unchanged = c.run_request.ensures.unchanged;
      ran = c.run_request.ensures.ran;
      promise = w.3;
    }
