pub mod FirstBadNodes
