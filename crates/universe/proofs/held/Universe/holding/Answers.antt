use Rattle.universe.proofs.held.Universe.holding.Goals as goal

pub invariant_of-result : goal.invariant_of-result
invariant_of-result c = record { sound = ∣ c.requires ∣₁ }
