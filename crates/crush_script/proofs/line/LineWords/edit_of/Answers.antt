-- The class is the first of the two words, and the device's name is the second.
use Rattle.std.proofs.Common.{rules}
use Rattle.crush_script.proofs.line.LineWords.edit_of.Goals as goal

pub returns-in_ok-class-in-SetDeviceClass : goal.returns-in_ok-class-in-SetDeviceClass
returns-in_ok-class-in-SetDeviceClass c = search rules
