use Rattle.std.specs.Prelude.{IfSome}
use Rattle.std.specs.List.{All, AllWithin}
use Rattle.tce_search.specs.Root.{IsMadeOfSome, IsBound}
use Rattle.tce_search.proofs.root.least_fusion.Given as goal

abbrev pub invariant-loop-left : goal.invariant-loop-left
invariant-loop-left l = record {
  bound : AllWithin (λ left. All (IsBound l.loops l.best left) l.rights) l.lefts 0 l.left-index;
  made : IfSome l.best (IsMadeOfSome l.loops l.lefts l.rights);
}

abbrev pub invariant-loop-right : goal.invariant-loop-right
invariant-loop-right l = record {
  earlier : AllWithin (λ left. All (IsBound l.loops l.best left) l.rights) l.lefts 0 l.left-index;
  here : AllWithin (IsBound l.loops l.best l.left) l.rights 0 l.right-index;
  made : IfSome l.best (IsMadeOfSome l.loops l.lefts l.rights);
}
