use Rattle.model.proofs.Formed.{empty_law, formed_law}
use Rattle.model.proofs.Openings.{opening_law}
use Rattle.model.proofs.GapSearch.{search_law}
use Rattle.model.proofs.Runs.{run_law, prefix_law}
use Rattle.model.proofs.laws_hold.Goals as goal

pub returns : goal.returns
returns c =
    record {
      empty = empty_law;
      formed = formed_law;
      opening = opening_law;
      search = search_law;
      run = run_law;
      prefixes = prefix_law;
    }
