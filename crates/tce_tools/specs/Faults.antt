-- Why a call is refused, by what one below it answered.
use Rattle.tce_outside.specs.declared.device.OutFault.{OutFault}
use Rattle.tce_outside.specs.declared.device.OutFault.TheVariants as out_fault
use Rattle.tce_array.specs.declared.fault.ArrayFault.{ArrayFault}
use Rattle.tce_array.specs.declared.fault.ArrayFault.TheVariants as array_fault
use Rattle.tce_tools.specs.declared.fault.ToolFault.{ToolFault}
use Rattle.tce_tools.specs.declared.fault.ToolFault.TheVariants.{Array, Disk, Memory}

-- a file was not made
abbrev pub of_making : OutFault → ToolFault
of_making out_fault.Failed = Disk
of_making out_fault.Memory = Memory

-- an array file was not opened
abbrev pub of_opening : ArrayFault → ToolFault
of_opening array_fault.NoFile = Array array_fault.NoFile
of_opening (array_fault.BadLength n) = Array (array_fault.BadLength n)
of_opening (array_fault.BadHeader p) = Array (array_fault.BadHeader p)
of_opening array_fault.Disk = Disk
