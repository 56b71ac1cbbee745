use Rattle.hosts.proofs.Offending.{legal_law, lawful_law}
use Rattle.hosts.proofs.Growing.{growth_law}
use Rattle.hosts.proofs.Deciding.{busy_law, done_law, refused_law, expected_law, covered_law, kept_law, stands_law}
use Rattle.hosts.proofs.Watching.{untested_law, watchful_law}
use Rattle.hosts.proofs.laws.laws_hold.Goals as goal

pub returns : goal.returns
returns c =
    record {
      legal = legal_law;
      lawful = lawful_law;
      stands = stands_law;
      untested = untested_law;
      growth = growth_law;
      busy = busy_law;
      done = done_law;
      refused = refused_law;
      expected = expected_law;
      covered = covered_law;
      kept = kept_law;
      watchful = watchful_law;
    }
