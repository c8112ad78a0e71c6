use Rattle.std.proofs.Common.{List, [], ◌∷◌, ◌++◌, ap, sym, ◌∙◌, append-nil, map}
use Rattle.std.specs.List.{slice_get}
use Rattle.json.specs.Token.{Token, key}
use Rattle.crush_nodes.specs.Seen.{shadow_data}
use Rattle.crush_edits.specs.Setting.{SettingData}
use Rattle.crush_items.specs.Items.{item_entry}
use Rattle.crush_items.specs.SeenItem.{seen_data}
use Rattle.crush_json.specs.ChangeDocument.{seen_document}
use Rattle.crush_json.specs.PairDocument.{seen_entry, seen_tokens_if}
use Rattle.crush_json.specs.Tokens.{member_tokens, tokens_of}
use Rattle.crush_json.proofs.Chains.{as_told, then}
use Rattle.crush_json.proofs.SinceLaws.{not_seen_at, seen_at}
use Rattle.crush_json.proofs.changes.push_at.Goals as goal

pub returns-in_ok-key-in-Some : goal.returns-in_ok-key-in-Some
returns-in_ok-key-in-Some g c =
    let r = c.push_seen.result in
    let items = c.args.items.now in
    let found = slice_get (map item_entry items.all.items) c.args.at in
    let entry = seen_entry (seen_data c.in-Some.item) (map shadow_data c.class_ids.result.now) in
    let name : List Token = key c.args.name.now ∷ [] in
    let told : List Token = tokens_of (seen_document c.setting.result.now entry) in
    as_told r c.args.out.now c.push_seen.new.out (name ++ told) (seen_tokens_if c.args.name.now items.map.now.setting found)
    (then r c.args.out.now c.key.new.self c.push_seen.new.out name told c.in_ok-key-in-Some.ensures c.push_seen.ensures)
    (ap (λ (s : SettingData). member_tokens c.args.name.now (seen_document s entry)) c.setting.ensures
    ∙ seen_at c.args.name.now items.map.now.setting found (seen_data c.in-Some.item) (map shadow_data c.class_ids.result.now) c.in-Some.ensures.item c.class_ids.ensures.item)

pub returns-in-None : goal.returns-in-None
returns-in-None g c =
    let items = c.args.items.now in
    let found = slice_get (map item_entry items.all.items) c.args.at in
    sym (append-nil c.args.out.now) ∙ ap (λ (l : List Token). c.args.out.now ++ l) (not_seen_at c.args.name.now items.map.now.setting found c.in-None.ensures.item)
