-- What passes can be run on every empty host. Assumes nothing.
use Rattle.model.proofs.Formed.{empty_law}
use Rattle.passing.specs.Laws.{StartLaw}

-- where nothing stands, all is well formed and gap-free; the run and its range are what passing means
pub start_law : StartLaw
start_law xs os m law sane is passes =
    let none = empty_law m.situation.universe in
    record {
      lawful = law;
      sane = sane;
      formed = rw is none.0;
      gap_free = rw is none.1;
      run = rw is passes.runs.run;
      range = passes.runs.range;
    }
