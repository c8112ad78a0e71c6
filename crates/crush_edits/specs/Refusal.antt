-- The names, numbers and Linux errors of the refusals.
use Rattle.std.specs.Prelude.{ℕ, List, codes}
use Rattle.crush_edits.specs.declared.refusal.Refusal.{Refusal}
use Rattle.crush_edits.specs.declared.refusal.Refusal.TheVariants.{BadName, BadLocation, NoSuchType, NoPlace, WeightTooLarge, NoSuchItem, NameTaken, AlreadyPlaced, NotPlaced, NotADevice, NotABucket, WrongType, Loop, Nested, NotEmpty, InUse, NotDirectory, AlreadyRenamed, NoRoom, SumTooLarge, ClassBound}

-- the name of a refusal, in the form in which lines of a history have it
abbrev pub refusal_name : Refusal → List ℕ
refusal_name BadName = codes "BadName"
refusal_name BadLocation = codes "BadLocation"
refusal_name NoSuchType = codes "NoSuchType"
refusal_name NoPlace = codes "NoPlace"
refusal_name WeightTooLarge = codes "WeightTooLarge"
refusal_name NoSuchItem = codes "NoSuchItem"
refusal_name NameTaken = codes "NameTaken"
refusal_name AlreadyPlaced = codes "AlreadyPlaced"
refusal_name NotPlaced = codes "NotPlaced"
refusal_name NotADevice = codes "NotADevice"
refusal_name NotABucket = codes "NotABucket"
refusal_name WrongType = codes "WrongType"
refusal_name Loop = codes "Loop"
refusal_name Nested = codes "Nested"
refusal_name NotEmpty = codes "NotEmpty"
refusal_name InUse = codes "InUse"
refusal_name NotDirectory = codes "NotDirectory"
refusal_name AlreadyRenamed = codes "AlreadyRenamed"
refusal_name NoRoom = codes "NoRoom"
refusal_name SumTooLarge = codes "SumTooLarge"
refusal_name ClassBound = codes "ClassBound"

-- the sentence that says why an edit is refused
abbrev pub refusal_sentence : Refusal → List ℕ
refusal_sentence BadName = codes "the location uses the device's own name for a bucket"
refusal_sentence BadLocation = codes "a location names each type and each bucket at most once, and never the type of devices"
refusal_sentence NoSuchType = codes "the map has no type with this name"
refusal_sentence NoPlace = codes "a location is required: one or more TYPE=BUCKET"
refusal_sentence WeightTooLarge = codes "a device weighs at most 32767.99998"
refusal_sentence NoSuchItem = codes "the map has no item with this name"
refusal_sentence NameTaken = codes "an item already has this name, or the device with this id has a different name"
refusal_sentence AlreadyPlaced = codes "the device is already in a bucket: use set or create-or-move to move it"
refusal_sentence NotPlaced = codes "the device is in no bucket: use add to place it"
refusal_sentence NotADevice = codes "the item is a bucket, but a device is required"
refusal_sentence NotABucket = codes "the item is a device, but a bucket is required"
refusal_sentence WrongType = codes "the bucket doesn't have the type that the location gives it, or a new bucket would have the type of devices"
refusal_sentence Loop = codes "a bucket can't be moved below itself"
refusal_sentence Nested = codes "the two buckets are the same, or one of them is below the other"
refusal_sentence NotEmpty = codes "the bucket isn't empty: move or remove its items first"
refusal_sentence InUse = codes "a rule takes the bucket"
refusal_sentence NotDirectory = codes "the item is a device: only buckets can be renamed"
refusal_sentence AlreadyRenamed = codes "no item has the old name, and an item has the new name: was it renamed before?"
refusal_sentence NoRoom = codes "a map has at most 4096 buckets and 65536 devices"
refusal_sentence SumTooLarge = codes "the total weight is too large: at most 65535.99998 for a bucket and 134217727.99998 for all devices"
refusal_sentence ClassBound = codes "the device has a different class: remove this class first with rm-device-class"

-- the number of a refusal. If the tests of several refusals hold for an edit, the edit is refused with the one that has the least number
abbrev pub refusal_number : Refusal → ℕ
refusal_number BadName = 1
refusal_number BadLocation = 2
refusal_number NoSuchType = 3
refusal_number NoPlace = 4
refusal_number WeightTooLarge = 5
refusal_number NoSuchItem = 6
refusal_number NameTaken = 7
refusal_number AlreadyPlaced = 8
refusal_number NotPlaced = 9
refusal_number NotADevice = 10
refusal_number NotABucket = 11
refusal_number WrongType = 12
refusal_number Loop = 13
refusal_number Nested = 14
refusal_number NotEmpty = 15
refusal_number InUse = 16
refusal_number NotDirectory = 17
refusal_number AlreadyRenamed = 18
refusal_number NoRoom = 19
refusal_number SumTooLarge = 20
refusal_number ClassBound = 21

-- the number of the Linux error (errno) whose meaning is nearest to the refusal
abbrev pub refusal_error : Refusal → ℕ
refusal_error BadName = 22
refusal_error BadLocation = 22
refusal_error NoSuchType = 22
refusal_error NoPlace = 22
refusal_error WeightTooLarge = 75
refusal_error NoSuchItem = 2
refusal_error NameTaken = 17
refusal_error AlreadyPlaced = 17
refusal_error NotPlaced = 2
refusal_error NotADevice = 22
refusal_error NotABucket = 22
refusal_error WrongType = 22
refusal_error Loop = 40
refusal_error Nested = 22
refusal_error NotEmpty = 39
refusal_error InUse = 16
refusal_error NotDirectory = 20
refusal_error AlreadyRenamed = 114
refusal_error NoRoom = 28
refusal_error SumTooLarge = 34
refusal_error ClassBound = 16
