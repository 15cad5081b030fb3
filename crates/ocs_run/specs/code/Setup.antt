-- What the run of an order begins with.
use Rattle.std.specs.Prelude.{◌≡◌, ℕ, List}
use Rattle.crew.specs.Crew.{side_seen}
use Rattle.ocs_base.specs.Script.{ScriptValue}
use Rattle.serial_model.specs.Side.{SideValue}
use Rattle.ocs_run.specs.Command.{IsOutOf, out_names}
use Rattle.ocs_words.specs.Order.{OrderValue}
use Rattle.files_run.specs.declared.run.Setup.{Setup}

-- over this image, this script and this side: its two sides are alike, and its files are new and have the names of the order
pub record IsSetupOf (order : OrderValue) (image : List ℕ) (script : ScriptValue) (side : SideValue) (setup : Setup) : Type 0 where
  pub image_is : setup.run.image ≡ image
  pub script_is : setup.run.script ≡ script
  pub height : setup.run.height ≡ order.band
  pub side_is : side_seen setup.run.side ≡ side
  pub same : side_seen setup.side ≡ side_seen setup.run.side
  pub files : IsOutOf (out_names order) setup.run.script.system setup.out
