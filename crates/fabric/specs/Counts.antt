-- For the code: the fabric with the service counts that the slots of the ports below n left.
use Rattle.std.specs.Prelude.{ℕ, List}
use Rattle.multiplexer.specs.declared.Multiplexer.{Multiplexer}
use Rattle.side.specs.Counts.{ports_below}
use Rattle.fabric.specs.declared.Fabric.{Fabric}

abbrev pub counted_of : Fabric → List Multiplexer → List Multiplexer → ℕ → Fabric
counted_of f boards heads n =
    record {
      queues = f.queues;
      crosspoints = f.crosspoints;
      boards = ports_below boards f.boards n;
      heads = ports_below heads f.heads n;
    }
