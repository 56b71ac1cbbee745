use Rattle.universe.specs.Reading.{tables_read}
use Rattle.sengoruwa_c.proofs.Telling.{refused_as_checked}
use Rattle.sengoruwa_c.proofs.sengoruwa_run.Goals as goal

pub returns-clause-as_checked : goal.returns-clause-as_checked
returns-clause-as_checked c = refused_as_checked (tables_read c.args.file.now) c.args.lines.now
