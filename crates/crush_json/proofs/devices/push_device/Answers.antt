use Rattle.std.proofs.Common.{ap}
use Rattle.crush_nodes.specs.Views.{ViewData}
use Rattle.crush_json.specs.MapDocument.{device_document}
use Rattle.crush_json.specs.Tokens.{tokens_of}
use Rattle.crush_json.proofs.Chains.{as_told}
use Rattle.crush_json.proofs.devices.push_device.Goals as goal

pub returns : goal.returns
returns g c =
    as_told c.push_view.result c.args.out.now c.push_view.new.out _ _ c.push_view.ensures
    (ap (λ (v : ViewData). tokens_of (device_document v)) c.device-view.ensures)
