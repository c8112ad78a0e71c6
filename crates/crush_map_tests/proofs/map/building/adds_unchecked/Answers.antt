use Rattle.std.proofs.Common.{rules, refl, sym}
use Rattle.crush_map_tests.proofs.map.building.adds_unchecked.Goals as goal

pub device_unchecked-requires : goal.device_unchecked-requires
device_unchecked-requires c = record {
  idle = search rules;
  name = search rules;
  class = search rules;
  clear = λ d h. rw (sym (c.if-has_device.ensures d h), sym (c.if-has_name.ensures d h), sym (c.if-is_full_of_devices.ensures d h)) refl;
}
