pub mod RightPlanes
