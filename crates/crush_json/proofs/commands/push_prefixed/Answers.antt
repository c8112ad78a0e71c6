use Rattle.crush_json.proofs.commands.push_prefixed.Goals as goal

pub returns-in-Place : goal.returns-in-Place
returns-in-Place c = rw c.in-Place.is c.push_placing.ensures

pub returns-in-Move : goal.returns-in-Move
returns-in-Move c = rw c.in-Move.is c.push_moving.ensures

pub returns-in-Swap : goal.returns-in-Swap
returns-in-Swap c = rw c.in-Swap.is c.push_swapping.ensures

pub returns-in-Reweight : goal.returns-in-Reweight
returns-in-Reweight c = rw c.in-Reweight.is c.push_weighing.ensures

pub returns-in-ReweightSubtree : goal.returns-in-ReweightSubtree
returns-in-ReweightSubtree c = rw c.in-ReweightSubtree.is c.push_weighing-in-ReweightSubtree.ensures

pub returns-in-Remove : goal.returns-in-Remove
returns-in-Remove c = rw c.in-Remove.is c.push_removing.ensures

pub returns-in-AddBucket : goal.returns-in-AddBucket
returns-in-AddBucket c = rw c.in-AddBucket.is c.push_adding.ensures

pub returns-in-Rename : goal.returns-in-Rename
returns-in-Rename c = rw c.in-Rename.is c.push_renaming.ensures

pub returns-in-SetClass : goal.returns-in-SetClass
returns-in-SetClass c = rw c.in-SetClass.is c.push_classing.ensures

pub returns-in-RemoveClass : goal.returns-in-RemoveClass
returns-in-RemoveClass c = rw c.in-RemoveClass.is c.push_declassing.ensures
