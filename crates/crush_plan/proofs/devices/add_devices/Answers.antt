use Rattle.crush_plan.proofs.Going.{stays_here, goes_then}
use Rattle.crush_plan.proofs.devices.add_devices.Goals as goal

pub loop-device-init : goal.loop-device-init
loop-device-init g c = stays_here _

pub loop-device-preserved : goal.loop-device-preserved
loop-device-preserved g c = goes_then _ _ _ c.loop-device.invariant c.in_ok-add_device.ensures
