use Rattle.std.specs.String.{string_bytes}
use Rattle.tce_run.proofs.AsRun.{all_of_demo, memory_of_demo}
use Rattle.tce_run.proofs.DemoRan.{all_done, demo_takings}
use Rattle.tce_run.proofs.DemoNoHalf.{demo_left}
use Rattle.tce_run.proofs.demo_command.demo.Goals as goal

pub returns-clause-done : goal.returns-clause-done
returns-clause-done g c =
    all_done string_bytes c.demonstrate-done.result c.in-Ok.made.spec c.in-Ok.made.text.items c.args.seed c.args.v c.args.o (g.D.Disk.files c.args.disk.now) (g.D.Disk.files c.demonstrate-done.new.disk) (g.R.Room.takings c.args.room.now)
    (g.R.Room.takings c.demonstrate-done.new.room) c.in-Ok.ensures.spec c.in-Ok.ensures.text c.requires.v c.requires.o c.demonstrate-done.ensures.done

pub returns-clause-takings : goal.returns-clause-takings
returns-clause-takings g c =
    demo_takings c.demonstrate-done.result c.in-Ok.made.spec c.args.v c.args.o (g.R.Room.takings c.args.room.now) (g.R.Room.takings c.demonstrate-done.new.room) c.in-Ok.ensures.spec c.requires.v c.requires.o c.demonstrate-done.ensures.takings

pub returns-in_default-clause-as_run : goal.returns-in_default-clause-as_run
returns-in_default-clause-as_run g c = memory_of_demo c.args.v c.args.o c.requires.v c.requires.o

pub returns-clause-as_run : goal.returns-clause-as_run
returns-clause-as_run g c = all_of_demo c.demonstrate-done.result c.in-Ok.made.spec c.args.v c.args.o c.in-Ok.ensures.spec c.requires.v c.requires.o c.demonstrate-done.ensures.as_run

pub returns-clause-no_half : goal.returns-clause-no_half
returns-clause-no_half g c =
    demo_left c.in-Ok.made.spec c.in-Ok.made.text.items c.args.seed c.args.v c.args.o _ _ c.in-Ok.ensures.spec c.in-Ok.ensures.text c.requires.v c.requires.o c.demonstrate-done.ensures.no_half

pub returns-in_default-new-clause-as_run : goal.returns-in_default-new-clause-as_run
returns-in_default-new-clause-as_run g c = memory_of_demo c.args.v c.args.o c.requires.v c.requires.o
