-- The differences between the rules and between the classes of two maps as JSON values. The members of each object are sorted by name.
use Rattle.std.specs.Prelude.{ℕ, List, Option, codes, map}
use Rattle.crush_compare.specs.declared.identity.Identity.TheVariants.{Ids}
use Rattle.crush_since.specs.Classes.{ClassChangeData, class_changes}
use Rattle.crush_since.specs.RuleChanges.{rule_changes}
use Rattle.crush_since.specs.Rules.{RuleChangeData, rule_new, rule_differs, rule_gone, rules_in_other_order, rule_takes_nothing}
use Rattle.crush_since.specs.Since.{PlainMap}
use Rattle.serde_json.specs.Data.{Data, boolean, string, object, member, no_members}
use Rattle.crush_json.specs.Values.{natural, text_if}

-- the value for a rule that differs: in which way it differs, and its name
unfoldable pub named_rule_document : List ℕ → List ℕ → Data
named_rule_document change name = object (member (codes "change") (string change) (member (codes "name") (string name) no_members))

-- the value which says that the rules are in another order. Unlike the other values, this value doesn't have the name of a rule
unfoldable pub order_document : Data
order_document = object (member (codes "change") (string (codes "other order")) no_members)

-- the value for a step of a rule that takes nothing any more: the name of the rule, and the bucket and the class that the step takes. The devices that such a step takes have the total weight 0 in the new map, and had a greater total weight in the old map
unfoldable pub takes_nothing_document : List ℕ → List ℕ → Option (List ℕ) → Data
takes_nothing_document rule bucket class =
    object (member (codes "bucket") (string bucket) (member (codes "change") (string (codes "takes nothing")) (text_if (codes "class") class (member (codes "name") (string rule) no_members))))

-- the value for a difference between the rules of two maps
abbrev pub rule_change_document : RuleChangeData → Data
rule_change_document (rule_new name) = named_rule_document (codes "new") name
rule_change_document (rule_differs name) = named_rule_document (codes "differs") name
rule_change_document (rule_gone name) = named_rule_document (codes "gone") name
rule_change_document rules_in_other_order = order_document
rule_change_document (rule_takes_nothing rule bucket class) = takes_nothing_document rule bucket class

-- RULES: the values for the rules that differ, or one value which says that the rules are in another order; then a value for each step that takes nothing any more. Buckets are compared by their ids
unfoldable pub rule_change_documents : PlainMap → PlainMap → List Data
rule_change_documents old new = map rule_change_document (rule_changes Ids old new)

-- the value for a class that has changed: its name, the total weights of its devices in both maps, and whether a rule of the new map takes the class
unfoldable pub class_change_document : ClassChangeData → Data
class_change_document x =
    object (member (codes "is") (natural x.is) (member (codes "name") (string x.name) (member (codes "taken") (boolean x.is_taken) (member (codes "was") (natural x.was) no_members))))

-- CLASSES: a value for each class whose devices have another total weight in the new map than in the old map, and for each class that only devices of the new map have and that no rule of the new map takes. The values are in the order of the names of the classes
unfoldable pub class_change_documents : PlainMap → PlainMap → List Data
class_change_documents old new = map class_change_document (class_changes old.table new.table new.setting.rules)
