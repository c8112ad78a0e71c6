-- How a `ClassChange` of the code is seen as plain data.
use Rattle.crush_since.specs.Classes.{ClassChangeData}
use Rattle.crush_since.specs.declared.since.classes.ClassChange.{ClassChange}

abbrev pub class_change_data : ClassChange → ClassChangeData
class_change_data x = record { name = x.name.now; was = x.was; is = x.is; is_new = x.is_new; is_taken = x.is_taken }
