use Rattle.std.proofs.Common.{ap, ◌∙◌}
use Rattle.universe.specs.Reading.{held_after, tables_read}
use Rattle.harbour.proofs.Files.{read_means, slow_is}
use Rattle.harbour.proofs.slow_cloud.Goals as goal

pub returns : goal.returns
returns c =
    let means = read_means _ _ (c.read.ensures.place ∙ ap (λ bs. held_after (tables_read bs) c.least-universe.result.tables) c.universe_file.ensures) in
    slow_is _ c.args.instances _ means c.open.ensures
