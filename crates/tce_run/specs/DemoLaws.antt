-- What holds of demonstrations of all extents.
use Rattle.std.specs.Prelude.{◌≡◌, ℕ}
use Rattle.tce_tools.specs.Demo.{demo_text}
use Rattle.tce_spec.specs.Canonical.{canonical_of}
use Rattle.tce_run.specs.DemoSpecification.{IsExtent, IsDemoOf, demo_specification}

abbrev pub DemosAreSpecified : Type 0
DemosAreSpecified = (v o : ℕ) → IsExtent v → IsExtent o → IsDemoOf v o (demo_specification v o)

abbrev pub DemosAreCanonical : Type 0
DemosAreCanonical = (v o : ℕ) → IsExtent v → IsExtent o → demo_text v o ≡ canonical_of (demo_specification v o)
