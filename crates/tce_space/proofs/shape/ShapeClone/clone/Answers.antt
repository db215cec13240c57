use Rattle.tce_space.proofs.shape.ShapeClone.clone.Goals as goal

pub returns-in_err-clone : goal.returns-in_err-clone
returns-in_err-clone c = absurd (c.in_err-clone.ensures.cases (λ i other low. tt))

pub returns-in_err-clone-2 : goal.returns-in_err-clone-2
returns-in_err-clone-2 c = absurd (c.in_err-clone-2.ensures.cases (λ i other low. tt))
